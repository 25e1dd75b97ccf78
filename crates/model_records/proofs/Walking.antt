-- The attribute records of the bytes b, as the walk over them gives them. Assumes nothing.
use Prim.Native.Nat.{ℕ, ◌+◌, ◌≤◌}
use native.Mathlib.Omega.{arith}
use mathlib.Core.Path.{◌≡◌, refl, sym, ap, subst, ◌∙◌}
use mathlib.Core.List.{List, []}
use lib.ListN.{length}
use Rattle.meaning.specs.Bytes.{byte_at}
use Rattle.meaning.specs.Row.{pairs_of}
use Rattle.model_records.specs.Records.{model_at, kind_at, next_at, attributes_at, pairs_at}
use Rattle.model_records.specs.AtRecord.{AttributeNext}
use Rattle.model_records.specs.Counts.{pair_count, fields_of}
use Rattle.model_records.specs.AttributeRecords.{RecordGiven, NoRecord}
use Rattle.model_records.specs.declared.records.AttributeRecords.{AttributeRecords}
use Rattle.model_records.proofs.Counting.{pairs_more}
use Rattle.model_records.proofs.Types.{parts_room}

module _ (b : List ℕ) (s : AttributeRecords) (x : ℕ) (t : AttributeRecords) (e : s.model.now ≡ b) (g : RecordGiven s x t) where
  pub given_model : t.model.now ≡ b
  given_model = g.model ∙ e

  pub given_here : AttributeNext (model_at b) b x g.topics g.tables
  given_here = subst (λ (l : List ℕ). AttributeNext (model_at l) l x g.topics g.tables) e g.here

  pub given_next : t.at ≡ next_at b x
  given_next = g.next ∙ ap (λ (l : List ℕ). next_at l x) e

  pub given_room : x + 6 ≤ t.at
  given_room = omega (arith, given_next, parts_room b x given_here.good)

  pub given_inside : t.at ≤ length b
  given_inside = omega (arith, given_next, given_here.good.fits)

  pub given_turn : (p : ℕ) → p ≡ pair_count (byte_at b (x + 5)) → length (pairs_at b s.at) ≡ p + length (pairs_at b t.at)
  given_turn p h = rw (given_next, sym g.at) (pairs_more (model_at b) b x g.topics g.tables given_here (fields_of (byte_at b (x + 5))) p (record { fields = refl; pairs = h }))

  pub given_kind : kind_at b s.at ≡ 5
  given_kind = ap (λ (l : List ℕ). kind_at l s.at) (sym e) ∙ g.kind

module _ (b : List ℕ) (s : AttributeRecords) (e : s.model.now ≡ b) (n : NoRecord s) where
  pub none_given : pairs_at b s.at ≡ []
  unfolding pairs_of
  none_given = let m : attributes_at b s.at ≡ [] = subst (λ (l : List ℕ). attributes_at l s.at ≡ []) e n.attributes in rw m refl

  pub none_kind : kind_at b s.at ≡ 5 → ⊥
  none_kind k = n.kind (ap (λ (l : List ℕ). kind_at l s.at) e ∙ k)
