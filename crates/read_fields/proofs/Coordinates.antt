-- A coordinate's components, one after the other. Assumes nothing.
use Prim.Native.Nat.{ℕ, zero, suc, ◌+◌, ◌-◌, ◌≤◌, ◌<◌}
use native.Mathlib.Nat.{add_assoc, suc-add}
use native.Mathlib.Omega.{arith}
use mathlib.Core.Path.{◌≡◌, refl, ap, ◌∙◌}
use mathlib.Core.List.{List, [], ◌∷◌, ◌++◌}
use lib.IntN.{ℤ}
use lib.ListN.{length, take, drop, get_or, length-drop}
use Rattle.meaning.specs.Model as meaning
use Rattle.meaning.specs.Field.{Field}
use Rattle.meaning.specs.Row.{Pair, Cells, refused, component_pairs, has_mandatory}
use Rattle.model_records.specs.declared.attributes.Component.{Component}
use Rattle.model_records.specs.Components.{list_of}
use Rattle.read_fields.specs.RowProgress.{prefixed, covered, further_asked, left, going, going_over, covering, due, RowFilled, Fills}
use Rattle.read_fields.specs.declared.filling.RowCursor.{RowCursor}
use Rattle.read_fields.specs.declared.filling.RowProgress.TheVariants.{On, RestUndefined}
use Rattle.std.proofs.Common.{Ok, Err}
use Rattle.base.specs.declared.reasons.Refusal.{Refusal}
use Rattle.base.specs.Reasons.{number_of}
use Rattle.read_fields.proofs.Pairs.{further}
use Rattle.read_fields.proofs.RowFilled.{both, renamed, before, refuses}
use Rattle.model_records.proofs.ComponentLaws.{listed_next, listed_end}

-- ## The list of components

pub length_listed : (l : List Component) (n : ℕ) → n ≤ length l → length (list_of (take n l)) ≡ n
unfolding list_of
length_listed l zero h = refl
length_listed [] (suc n) h = absurd (omega arith)
length_listed (c ∷ l) (suc n) h = ap suc (length_listed l n (omega arith))

-- ## Their pairs

pub mandatory_components : (cs : List meaning.Component) (ps : List Pair) → has_mandatory (component_pairs cs ++ ps) ≡ has_mandatory ps
unfolding has_mandatory component_pairs
mandatory_components [] ps = refl
mandatory_components (c ∷ cs) ps = mandatory_components cs ps

pub count_components : (cs : List meaning.Component) (ps : List Pair) → length (component_pairs cs ++ ps) ≡ length cs + length ps
unfolding component_pairs
count_components [] ps = omega arith
count_components (c ∷ cs) ps = rw (count_components cs ps, suc-add (length cs) (length ps))

-- two undefined bytes over further components
pub covered_over : (place n : ℕ) (cs : List meaning.Component) (ps : List Pair) (fs : List Field) → covered place n (component_pairs cs ++ ps) fs ≡ covered place (n + length cs) ps fs
unfolding covered
covered_over place n cs ps fs = rw (mandatory_components cs ps, count_components cs ps, ← add_assoc n (length cs) (length ps))

-- ## A turn

-- what the row means from component i on, and where that is due
abbrev pub from_component : (u start : ℕ) (rest : List ℕ) (count : ℕ) (items : List Component) (i : ℕ) → RowCursor → List Pair → Cells
from_component u start rest count items i t = going_over u start rest (component_pairs (drop i (list_of (take count items)))) t

module _ (u start : ℕ) (rest : List ℕ) (count : ℕ) (items : List Component) (i : ℕ) (d : Component) (h : i < count) (g : count ≤ length items) where
  behind_it : List Pair → List Pair
  behind_it ps = component_pairs (drop (i + 1) (list_of (take count items))) ++ ps

  component_due : (t : RowCursor) (ps : List Pair)
      → from_component u start rest count items i t ps ≡ due u start rest (further_asked t.before (get_or items i d)) t (component_pairs (drop (i + 1) (list_of (take count items))) ++ ps)
  unfolding component_pairs
  component_due t ps = rw (listed_next items i count d h g) (further u t.before t.place _ _ _)

  module _ {most : ℕ} {whole : List Pair → Cells} {s t : RowCursor} {entry cells : List ℤ} (now : RowFilled rest most whole (from_component u start rest count items i t) s t entry cells) (exit : List ℤ) where
    pub component_on : (v : RowCursor) → Fills u start rest 2 (due u start rest (further_asked t.before (get_or items i d)) t) t cells exit (Ok (On v))
        → RowFilled rest (most + 2) whole (from_component u start rest count items (i + 1) v) s v entry exit
    component_on v step =
        both now (renamed (from_component u start rest count items i t) (from_component u start rest count items (i + 1) v) (component_due t) (λ ps. refl)
        (before (λ ps. component_pairs (drop (i + 1) (list_of (take count items))) ++ ps) step))

    pub component_rest : (v : RowCursor) (n : ℕ) → Fills u start rest 2 (due u start rest (further_asked t.before (get_or items i d)) t) t cells exit (Ok (RestUndefined v n))
        → RowFilled rest (most + 2) whole (covering start rest v (n + (count - 1 - i))) s v entry exit
    component_rest v n step =
        let e : length (drop (i + 1) (list_of (take count items))) ≡ count - 1 - i = length-drop (i + 1) (list_of (take count items)) ∙ rw (length_listed items count g) (omega arith) in
        both now (renamed (from_component u start rest count items i t) (covering start rest v (n + (count - 1 - i))) (component_due t)
        (λ ps. covered_over v.place n (drop (i + 1) (list_of (take count items))) ps (left start rest v) ∙ rw e)
        (before (λ ps. component_pairs (drop (i + 1) (list_of (take count items))) ++ ps) step.1))

    pub component_no : (r : Refusal) → Fills u start rest 2 (due u start rest (further_asked t.before (get_or items i d)) t) t cells exit (Err r) → (ps : List Pair) → whole ps ≡ refused (number_of r.reason) r.field
    unfolding prefixed
    component_no r step ps = refuses (refused (number_of r.reason) r.field) (λ qs. component_due t qs ∙ step (component_pairs (drop (i + 1) (list_of (take count items))) ++ qs)) (λ vs. refl) now ps

-- behind the last component
pub components_end : (u start : ℕ) (rest : List ℕ) (count : ℕ) (items : List Component) (i most : ℕ) {whole : List Pair → Cells} {s t : RowCursor} {entry exit : List ℤ} → count ≤ i
    → RowFilled rest most whole (from_component u start rest count items i t) s t entry exit → RowFilled rest most whole (going u start rest t) s t entry exit
unfolding component_pairs
components_end u start rest count items i most {whole} {s} {t} h now = renamed whole (going u start rest t) (λ ps. refl) (λ ps. rw (listed_end items i count h)) now
