-- An attribute's pairs, by the number of its type. Assumes nothing.
use Prim.Native.Nat.{ℕ, zero, suc, ◌+◌, ◌*◌, ◌≤◌}
use native.Mathlib.Omega.{arith}
use mathlib.Core.Path.{◌≡◌, refl, sym, ap, ap₂, ◌∙◌}
use mathlib.Core.Bool.{Bool}
use mathlib.Core.List.{List, ◌++◌}
use mathlib.Core.Logic.{inl}
use lib.IntN.{ℤ}
use lib.ListN.{drop, length-drop}
use lib.Seq.{get_or-drop}
use Rattle.meaning.specs.Bytes.{choose, byte_at, u16_at}
use Rattle.meaning.specs.Model.{Model, found, missing, target_of, type_of, components_of, attribute_of}
use Rattle.meaning.specs.Row.{Pair, component_pairs, pairs_of_type, pairs_of}
use Rattle.meaning.specs.Reading.{Object}
use Rattle.meaning.specs.Table.{after_resolved, resolve_pair, resolve_pairs}
use Rattle.model_records.specs.Records.{payload_at, next_at, pairs_at}
use Rattle.model_records.specs.AtRecord.{AttributeHere, AttributeNext}
use Rattle.model_records.specs.Attributes.{ParametersFit}
use Rattle.model_records.proofs.Types.{payload_room, payload_byte, sized, type_at, word_size}
use Rattle.model_records.specs.Counts.{fields_of, pair_count, CountsOf}

-- ## The type

-- only a reference refers to a table
no_target : (t : ℕ) (q : List ℕ) → ParametersFit t q → (t ≡ 1 → ⊥) → target_of (type_of t q) ≡ missing
unfolding target_of type_of choose
no_target zero q s n = refl
no_target (suc zero) q s n = absurd (n refl)
no_target (suc (suc zero)) q s n = refl
no_target (suc (suc (suc zero))) q s n = refl
no_target (suc (suc (suc (suc zero)))) q s n = refl
no_target (suc (suc (suc (suc (suc zero))))) q s n = refl
no_target (suc (suc (suc (suc (suc (suc zero)))))) q s n = refl
no_target (suc (suc (suc (suc (suc (suc (suc zero))))))) q s n = refl
no_target (suc (suc (suc (suc (suc (suc (suc (suc zero)))))))) q s n = refl
no_target (suc (suc (suc (suc (suc (suc (suc (suc (suc t))))))))) q s n = absurd (omega (arith, s.most))

a_target : (t : ℕ) (q : List ℕ) → t ≡ 1 → target_of (type_of t q) ≡ found (u16_at q 0)
unfolding target_of type_of choose
a_target t q e = rw e

module _ (b : List ℕ) (at : ℕ) (h : AttributeHere b at) where
  pub no_reference : (byte_at b (at + 5) ≡ 1 → ⊥) → target_of (attribute_of at (payload_at b at)).type ≡ missing
  unfolding attribute_of
  no_reference n = no_target (byte_at (payload_at b at) 1) (drop 2 (payload_at b at)) (sized b at h) (λ e. n (type_at b at h ∙ e))

  -- a reference's table is a number behind the type
  pub reference_room : byte_at b (at + 5) ≡ 1 → at + 8 ≤ next_at b at
  reference_room e =
      let l = word_size (drop 2 (payload_at b at)) (byte_at (payload_at b at) 1) (inl (sym (type_at b at h) ∙ e)) (sized b at h) in
      omega (arith, payload_room b at 4 (omega (arith, length-drop 2 (payload_at b at))))

  word_at : byte_at b (at + 5) ≡ 1 → u16_at (drop 2 (payload_at b at)) 0 ≡ u16_at b (at + 6)
  word_at e =
      let r = reference_room e in
      let low : byte_at (drop 2 (payload_at b at)) 0 ≡ byte_at b (at + 6) = get_or-drop 2 (payload_at b at) 0 0 ∙ payload_byte b at 2 (omega arith) ∙ ap (λ (x : ℕ). byte_at b x) (let s : at + 4 + 2 ≡ at + 6 = omega arith in s) in
      let high : byte_at (drop 2 (payload_at b at)) 1 ≡ byte_at b (at + 6 + 1) = get_or-drop 2 (payload_at b at) 1 0 ∙ payload_byte b at 3 (omega arith) ∙ ap (λ (x : ℕ). byte_at b x) (let s : at + 4 + 3 ≡ at + 6 + 1 = omega arith in s) in
      ap₂ (λ (x y : ℕ). x + 256 * y) low high

  pub a_reference : byte_at b (at + 5) ≡ 1 → target_of (attribute_of at (payload_at b at)).type ≡ found (u16_at b (at + 6))
  unfolding attribute_of
  a_reference e = a_target (byte_at (payload_at b at) 1) (drop 2 (payload_at b at)) (sym (type_at b at h) ∙ e) ∙ ap found (word_at e)

-- ## Its fields and pairs

module _ (o : Bool) (q : List ℕ) (ps : List Pair) where
  module _ (text : List ℕ) (os : List Object) (object field cell : ℕ) (cs : List ℤ) where
    moved : (f c : ℕ) → f ≡ field → c ≡ cell → resolve_pairs text os object f c ps cs ≡ resolve_pairs text os object field cell ps cs
    moved f c e g = ap₂ (λ (x y : ℕ). resolve_pairs text os object x y ps cs) e g

  module _ (text : List ℕ) (os : List Object) (object field cell : ℕ) (cs : List ℤ) where
    resolve_type : (t : ℕ) → ParametersFit t q → resolve_pairs text os object field cell (pairs_of_type o (type_of t q) ++ ps) cs
        ≡ after_resolved (resolve_pair text os object field cell (target_of (type_of t q)) cs) (λ ds. resolve_pairs text os object (field + fields_of t) (cell + 2 * pair_count t) ps ds)
    unfolding resolve_pairs resolve_pair target_of pairs_of_type component_pairs type_of components_of fields_of pair_count choose
    resolve_type zero s = absurd (omega (arith, s.least))
    resolve_type (suc zero) s = refl
    resolve_type (suc (suc zero)) s = moved text os object (field + 2) (cell + 4) cs (field + 1 + 1) (cell + 2 + 2) (omega arith) (omega arith)
    resolve_type (suc (suc (suc zero))) s = moved text os object (field + 3) (cell + 6) cs (field + 1 + 1 + 1) (cell + 2 + 2 + 2) (omega arith) (omega arith)
    resolve_type (suc (suc (suc (suc zero)))) s = refl
    resolve_type (suc (suc (suc (suc (suc zero))))) s = refl
    resolve_type (suc (suc (suc (suc (suc (suc zero)))))) s = refl
    resolve_type (suc (suc (suc (suc (suc (suc (suc zero))))))) s = refl
    resolve_type (suc (suc (suc (suc (suc (suc (suc (suc zero)))))))) s = moved text os object (field + 0) (cell + 2) cs field (cell + 2) (omega arith) (omega arith)
    resolve_type (suc (suc (suc (suc (suc (suc (suc (suc (suc t))))))))) s = absurd (omega (arith, s.most))

-- ## Its record

-- the pairs from an attribute record on
module _ (m : Model) (b : List ℕ) (at k t : ℕ) (a : AttributeNext m b at k t) (f p : ℕ) (c : CountsOf (byte_at b (at + 5)) f p) where
  counted : CountsOf (byte_at (payload_at b at) 1) f p
  counted = rw (type_at b at a.good) at c

  module _ (text : List ℕ) (os : List Object) (object field cell : ℕ) (cs : List ℤ) where
    pub attribute_turn : resolve_pairs text os object field cell (pairs_at b at) cs
        ≡ after_resolved (resolve_pair text os object field cell (target_of (attribute_of at (payload_at b at)).type) cs) (λ ds. resolve_pairs text os object (field + f) (cell + 2 * p) (pairs_at b (next_at b at)) ds)
    unfolding attribute_of pairs_of
    attribute_turn = rw (a.attributes, counted.fields, counted.pairs) (resolve_type _ (drop 2 (payload_at b at)) _ text os object field cell cs (byte_at (payload_at b at) 1) (sized b at a.good))
