-- An attribute's pairs by its type, and a step over all of them. Assumes nothing.
use Prim.Native.Nat.{ℕ, ◌+◌, ◌-◌, ◌≤◌}
use native.Mathlib.Omega.{arith}
use mathlib.Core.Path.{◌≡◌, refl, ◌∙◌}
use mathlib.Core.Bool.{Bool}
use mathlib.Core.List.{List, [], ◌∷◌, ◌++◌}
use lib.IntN.{ℤ, pos}
use lib.ListN.{length, take, drop, get_or, length-drop}
use lib.Seq.{sets}
use Rattle.meaning.specs.Model as meaning
use Rattle.meaning.specs.Model.{Reference, Coordinate, Number, Text, Date, Enumeration, Line}
use Rattle.meaning.specs.Row.{Pair, OfAttribute, OfLine, Cells, refused, component_pairs, pairs_of_type}
use Rattle.model_records.specs.declared.attributes.Component.{Component}
use Rattle.model_records.specs.Components.{list_of}
use Rattle.model_records.specs.Attributes.{of_kind}
use Rattle.model_records.specs.declared.attributes.Kind.{Kind}
use Rattle.model_records.specs.declared.attributes.Kind.TheVariants as kind
use Rattle.model_records.specs.declared.attributes.Components.{Components}
use Rattle.read_fields.specs.RowProgress.{prefixed, own_asked, passed, left, going, going_over, covering, due, RowFilled, Fills}
use Rattle.read_fields.specs.declared.filling.RowCursor.{RowCursor}
use Rattle.read_fields.specs.declared.filling.RowProgress.{RowProgress}
use Rattle.read_fields.specs.declared.filling.RowProgress.TheVariants.{On, RestUndefined}
use Rattle.std.proofs.Common.{Result, Ok, Err}
use Rattle.base.specs.declared.reasons.Refusal.{Refusal}
use Rattle.base.specs.Reasons.{number_of}
use Rattle.read_fields.proofs.Pairs.{own, of_line}
use Rattle.read_fields.proofs.RowFilled.{none, both, wider, renamed, before, refuses}
use Rattle.read_fields.proofs.Coordinates.{length_listed, covered_over}
use Rattle.model_records.proofs.ComponentLaws.{listed_next}

-- ## RowFilled by their answer

module _ (u start : ℕ) (rest : List ℕ) (m : ℕ) (whole : List Pair → Cells) (s : RowCursor) (entry exit : List ℤ) where
  pub fills_as : (whole' : List Pair → Cells) (n : ℕ) → ((ps : List Pair) → whole' ps ≡ whole ps) → m ≤ n → (r : Result RowProgress Refusal) → Fills u start rest m whole s entry exit r → Fills u start rest n whole' s entry exit r
  fills_as whole' n e h (Ok (On t)) f = wider n h (renamed whole' (going u start rest t) e (λ ps. refl) f)
  fills_as whole' n e h (Ok (RestUndefined t count)) f = (omega (arith, f.0), wider n h (renamed whole' (covering start rest t count) e (λ ps. refl) f.1))
  fills_as whole' n e h (Err r) f = λ ps. e ps ∙ f ps

-- a step, and then another one
pub then : (u start : ℕ) (rest : List ℕ) {m : ℕ} (n : ℕ) {whole middle : List Pair → Cells} {s t : RowCursor} {entry between : List ℤ} (exit : List ℤ) → RowFilled rest m whole middle s t entry between
    → (r : Result RowProgress Refusal) → Fills u start rest n middle t between exit r → Fills u start rest (m + n) whole s entry exit r
unfolding prefixed
then u start rest n exit a (Ok (On v)) f = both a f
then u start rest n exit a (Ok (RestUndefined v count)) f = (omega (arith, f.0, a.used, a.few), both a f.1)
then u start rest n exit a (Err r) f = refuses (refused (number_of r.reason) r.field) f (λ vs. refl) a

-- ## A coordinate

-- one of no component has no pair
pub coordinate_none : (u start : ℕ) (rest : List ℕ) (o : Bool) (count : ℕ) (items : List Component) → count ≡ 0 → (s : RowCursor) (l : List ℤ) → s.at ≤ length rest → s.place ≤ s.at + 3
    → Fills u start rest 6 (going_over u start rest (pairs_of_type o (Coordinate (list_of (take count items)))) s) s l l (Ok (On s))
unfolding pairs_of_type list_of
coordinate_none u start rest o count items e s l w p = rw e (wider 6 (omega arith) (none rest (going u start rest s) s l w p))

module _ (u start : ℕ) (rest : List ℕ) (o : Bool) (count : ℕ) (items : List Component) (d : Component) (h : 1 ≤ count) (g : count ≤ length items) (s : RowCursor) where
  first_due : (ps : List Pair) → going_over u start rest (pairs_of_type o (Coordinate (list_of (take count items)))) s ps
      ≡ due u start rest (own_asked o (kind.Number (get_or items 0 d))) s (component_pairs (drop 1 (list_of (take count items))) ++ ps)
  unfolding pairs_of_type
  first_due ps = rw (listed_next items 0 count d h g) (own u s.before s.place o _ _ _)

  module _ (entry between : List ℤ) where
    pub coordinate_on : (t : RowCursor) → Fills u start rest 2 (due u start rest (own_asked o (kind.Number (get_or items 0 d))) s) s entry between (Ok (On t))
        → (exit : List ℤ) (r : Result RowProgress Refusal) → Fills u start rest 4 (going_over u start rest (component_pairs (drop 1 (list_of (take count items)))) t) t between exit r
        → Fills u start rest 6 (going_over u start rest (pairs_of_type o (Coordinate (list_of (take count items)))) s) s entry exit r
    coordinate_on t a exit r b =
        then u start rest 4 exit (renamed (going_over u start rest (pairs_of_type o (Coordinate (list_of (take count items)))) s) (going_over u start rest (component_pairs (drop 1 (list_of (take count items)))) t)
        first_due (λ ps. refl) (before (λ ps. component_pairs (drop 1 (list_of (take count items))) ++ ps) a)) r b

    pub coordinate_rest : (t : RowCursor) (n : ℕ) → count ≤ 3 → Fills u start rest 2 (due u start rest (own_asked o (kind.Number (get_or items 0 d))) s) s entry between (Ok (RestUndefined t n))
        → Fills u start rest 6 (going_over u start rest (pairs_of_type o (Coordinate (list_of (take count items)))) s) s entry between (Ok (RestUndefined t (n + (count - 1))))
    coordinate_rest t n k a =
        let e : length (drop 1 (list_of (take count items))) ≡ count - 1 = length-drop 1 (list_of (take count items)) ∙ rw (length_listed items count g) refl in (
          omega (arith, a.0),
          wider 6 (omega arith) (renamed (going_over u start rest (pairs_of_type o (Coordinate (list_of (take count items)))) s) (covering start rest t (n + (count - 1)))
              first_due (λ ps. covered_over t.place n (drop 1 (list_of (take count items))) ps (left start rest t) ∙ rw e)
              (before (λ ps. component_pairs (drop 1 (list_of (take count items))) ++ ps) a.1)),
        )

    pub coordinate_no : (r : Refusal) → Fills u start rest 2 (due u start rest (own_asked o (kind.Number (get_or items 0 d))) s) s entry between (Err r)
        → (ps : List Pair) → going_over u start rest (pairs_of_type o (Coordinate (list_of (take count items)))) s ps ≡ refused (number_of r.reason) r.field
    coordinate_no r a ps = first_due ps ∙ a _

-- ## An attribute with one field of its own

own_pair : (o : Bool) (k : Kind) → ((cs : Components) → k ≡ kind.Coordinate cs → ⊥) → ((forms : ℕ) (cs : Components) → k ≡ kind.Line forms cs → ⊥)
    → pairs_of_type o (of_kind k) ≡ OfAttribute o (of_kind k) ∷ []
unfolding pairs_of_type
own_pair o (kind.Reference table) c l = refl
own_pair o (kind.Coordinate cs) c l = absurd (c cs refl)
own_pair o (kind.Number component) c l = refl
own_pair o (kind.Text longest) c l = refl
own_pair o kind.Date c l = refl
own_pair o (kind.Enumeration leaves) c l = refl
own_pair o (kind.Line forms cs) c l = absurd (l forms cs refl)

pub own_due : (u start : ℕ) (rest : List ℕ) (o : Bool) (k : Kind) → ((cs : Components) → k ≡ kind.Coordinate cs → ⊥) → ((forms : ℕ) (cs : Components) → k ≡ kind.Line forms cs → ⊥)
    → (s : RowCursor) (ps : List Pair) → going_over u start rest (pairs_of_type o (of_kind k)) s ps ≡ due u start rest (own_asked o k) s ps
own_due u start rest o k c l s ps = rw (own_pair o k c l) (own u s.before s.place o _ _ _)

-- ## A line

pub line_filled : (u start : ℕ) (rest : List ℕ) (o : Bool) (forms : ℕ) (cs : List meaning.Component) (s : RowCursor) (entry exit : List ℤ) → s.at ≤ length rest → s.place ≤ s.at + 3
    → exit ≡ sets entry s.used (pos 0 ∷ pos 0 ∷ []) → RowFilled rest 6 (going_over u start rest (OfLine o forms cs ∷ []) s) (going u start rest (passed s)) s (passed s) entry exit
line_filled u start rest o forms cs s entry exit w p e = record {
  values = pos 0 ∷ pos 0 ∷ [];
  meant = λ ps. of_line u s.before s.place o forms cs ps (left start rest s);
  used = refl;
  stored = e;
  few = omega arith;
  within = w;
  placed = p;
}
