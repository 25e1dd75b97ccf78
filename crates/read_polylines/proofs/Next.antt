-- The next line attribute among the attribute records: an attribute that is no line is passed with its pairs. Assumes nothing.
use Prim.Native.Nat.{ℕ, zero, suc, ◌+◌, ◌*◌, ◌≤◌, ◌<◌}
use native.Mathlib.Omega.{arith}
use mathlib.Core.Path.{◌≡◌, refl, sym, ◌∙◌}
use mathlib.Core.Bool.{Bool}
use mathlib.Core.List.{List, [], ◌∷◌, ◌++◌}
use lib.ListN.{length, drop, get_or}
use Rattle.meaning.specs.Bytes.{choose, byte_at}
use Rattle.meaning.specs.Model.{Model, type_of, components_of, attribute_of}
use Rattle.meaning.specs.Row.{Pair, component_pairs, pairs_of_type, pairs_of}
use Rattle.meaning.specs.Reading.{LineAttribute, line_attributes, due_lines}
use Rattle.model_records.specs.Records.{kind_at, payload_at, next_at, pairs_at}
use Rattle.model_records.specs.Counts.{pair_count}
use Rattle.model_records.specs.AtRecord.{AttributeNext, AttributesHere}
use Rattle.model_records.proofs.AtRecord.{attribute_here, no_attribute}
use Rattle.model_records.proofs.Types.{sized, type_at}
use Rattle.model_records.proofs.Counting.{pairs_turn}
use Rattle.read_state.specs.Meaning.{lines_at, open_line_of, due_of}
use Rattle.read_state.specs.declared.OpenLine.{OpenLine}
use Rattle.read_state.specs.declared.LineState.TheVariants.{Unstarted}
use Rattle.read_state.specs.declared.Due.TheVariants as due
use Rattle.read_state.specs.Holds.{LineHolds}

-- ## An attribute's pairs, by the number of its type

-- the line attributes behind an attribute that is no line
passes : (o : Bool) (t : ℕ) (q : List ℕ) (c : ℕ) (ps : List Pair) → 1 ≤ t → t < 8 → line_attributes c (pairs_of_type o (type_of t q) ++ ps) ≡ line_attributes (c + 2 * pair_count t) ps
unfolding line_attributes pairs_of_type type_of components_of component_pairs choose pair_count
passes o zero q c ps l g = absurd (omega arith)
passes o (suc zero) q c ps l g = refl
passes o (suc (suc zero)) q c ps l g = let e : c + 2 + 2 ≡ c + 4 = omega arith in rw e
passes o (suc (suc (suc zero))) q c ps l g = let e : c + 2 + 2 + 2 ≡ c + 6 = omega arith in rw e
passes o (suc (suc (suc (suc zero)))) q c ps l g = refl
passes o (suc (suc (suc (suc (suc zero))))) q c ps l g = refl
passes o (suc (suc (suc (suc (suc (suc zero)))))) q c ps l g = refl
passes o (suc (suc (suc (suc (suc (suc (suc zero))))))) q c ps l g = refl
passes o (suc (suc (suc (suc (suc (suc (suc (suc n)))))))) q c ps l g = absurd (omega arith)

-- ## The attribute record at a byte

-- the attribute records from a byte on mean for the line attributes what those from `at` on mean
pub record Reached (m : Model) (b : List ℕ) (at cell here c : ℕ) : Type 0 where
  pub attributes : AttributesHere m b here
  pub same : lines_at b here c ≡ lines_at b at cell
  pub behind : cell ≤ c
  pub left : c + 2 * length (pairs_at b here) ≡ cell + 2 * length (pairs_at b at)

module _ (m : Model) (b : List ℕ) (at cell here c : ℕ) (r : Reached m b at cell here c) where
  module _ (e : kind_at b here ≡ 5) where
    a : AttributeNext m b here r.attributes.topics r.attributes.tables
    a = attribute_here m b here _ _ r.attributes.standing e

    type_is : byte_at b (here + 5) ≡ byte_at (payload_at b here) 1
    type_is = type_at b here a.good

    -- an attribute that is no line, of p pairs
    module _ (n : byte_at b (here + 5) ≡ 8 → ⊥) (p : ℕ) (d : p ≡ pair_count (byte_at b (here + 5))) where
      pub passed_size : length (pairs_at b here) ≡ p + length (pairs_at b (next_at b here))
      passed_size = pairs_turn m b here _ _ r.attributes.standing e p d

      passed_same : lines_at b (next_at b here) (c + 2 * p) ≡ lines_at b at cell
      unfolding pairs_of attribute_of
      passed_same =
          let s = sized b here a.good in
          let q : List ℕ = drop 2 (payload_at b here) in
          let o : Bool = (attribute_of here (payload_at b here)).optional in
          let x = passes o (byte_at (payload_at b here) 1) q c (pairs_at b (next_at b here)) s.least (omega (arith, s.most, type_is, n)) in
          rw (d, type_is) (sym x ∙ rw a.attributes at r.same)

      pub passed : Reached m b at cell (next_at b here) (c + 2 * p)
      passed = record {
        attributes = record { topics = _; tables = _; standing = a.next };
        same = passed_same;
        behind = omega (arith, r.behind);
        left = omega (arith, r.left, passed_size);
      }

    -- a line attribute, which has not begun
    pub line_holds : (rows : List ℕ) (n used points first t : ℕ) → t < length m.tables → byte_at b (here + 5) ≡ 8
        → ((o : ℕ) → o < n → get_or rows o 0 + 2 < cell) → cell + 2 * length (pairs_at b at) ≤ used → first ≤ points
        → LineHolds m b rows n used points (record { table = t; state = Unstarted; first = first; at = here; cell = c })
    line_holds rows n used points first t inside eight behind fits f = record {
      table = inside;
      attributes = r.attributes;
      kind = e;
      line = sym type_is ∙ eight;
      behind_rows = λ o l. omega (arith, behind o l, r.behind);
      fits = omega (arith, r.left);
      first = f;
    }

  -- behind the last attribute record
  pub none_reached : (kind_at b here ≡ 5 → ⊥) → lines_at b at cell ≡ []
  unfolding pairs_of line_attributes
  none_reached n = sym r.same ∙ rw (no_attribute m b here _ _ r.attributes.standing n) refl

-- ## What is due

-- a line attribute that has not begun
open_unstarted : (u : OpenLine) (ls : List LineAttribute) → u.state ≡ Unstarted → open_line_of u ls ≡ due_lines u.table u.first ls
unfolding open_line_of due_lines
open_unstarted u [] s = refl
open_unstarted u (a ∷ others) s = rw s

pub due_unstarted : (b : List ℕ) (u : OpenLine) (ls : List LineAttribute) → u.state ≡ Unstarted → lines_at b u.at u.cell ≡ ls → due_of b (due.Line u) ≡ due_lines u.table u.first ls
unfolding due_of
due_unstarted b u ls s e = rw e (open_unstarted u ls s)
