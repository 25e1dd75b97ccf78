-- A point's fields, one after the other. Assumes nothing.
use Prim.Native.Nat.{ℕ, ◌+◌, ◌≤◌, ◌<◌}
use native.Mathlib.Nat.{add_assoc, add-zero}
use native.Mathlib.Numerals.{add-one}
use native.Mathlib.Omega.{arith}
use mathlib.Core.Path.{◌≡◌, refl, sym, ◌∙◌}
use mathlib.Core.Bool.{Bool, true, false, ◌||◌}
use mathlib.Core.List.{List, [], ◌∷◌, ◌++◌, append-nil}
use lib.IntN.{ℤ}
use lib.ListN.{length, take, drop, get_or, set}
use lib.Seq.{drop-drop, take-suc-set}
use Rattle.meaning.specs.Bytes.{refuse}
use Rattle.meaning.specs.Model as meaning
use Rattle.meaning.specs.Field.{fields_of}
use Rattle.meaning.specs.Value.{pair, wrong, number_of}
use Rattle.meaning.specs.Row.{Cells, cells, refused, put_number, component_values}
use Rattle.model_records.specs.declared.attributes.Component.{Component}
use Rattle.model_records.specs.Components.{component_of, list_of}
use Rattle.base.specs.Fields.{FirstField}
use Rattle.read_fields.specs.FieldForm.{FieldTaken, TwiceTaken}
use Rattle.read_fields.specs.RowProgress.{prefixed}
use Rattle.read_polylines.specs.PointFields.{ValueGot}
use Rattle.read_fields.proofs.Pairs.{prefixed_none, prefixed_both}
use Rattle.model_records.proofs.ComponentLaws.{listed_next, listed_end}

or-true : (x : Bool) → (x || true) ≡ true
or-true true = refl
or-true false = refl

number_prefixed : (place : ℕ) (a v : ℤ) (c : Cells) → put_number place (pair a v) c ≡ prefixed (v ∷ []) c
unfolding put_number prefixed
number_prefixed place a v (cells cs) = refl
number_prefixed place a v (refused n f) = refl

-- ## One field

module _ (u : ℕ) (c : meaning.Component) (rest : List ℕ) where
  pub value_missing : ((n : ℕ) → fields_of n rest ≡ []) → (start place : ℕ) (cs : List meaning.Component) → component_values u place (c ∷ cs) (fields_of start rest) ≡ refused 11 place
  unfolding component_values
  value_missing e start place cs = rw (e start)

  module _ (at len : ℕ) where
    pub value_twice : TwiceTaken u rest at len → (start place : ℕ) (cs : List meaning.Component) → component_values u place (c ∷ cs) (fields_of start rest) ≡ refused 12 place
    unfolding component_values refuse
    value_twice f start place cs = rw (f.first.first start, f.twice (start + at), or-true _)

    pub value_undefined : FieldTaken u rest at len true → (start place : ℕ) (cs : List meaning.Component) → component_values u place (c ∷ cs) (fields_of start rest) ≡ refused 12 place
    unfolding component_values refuse
    value_undefined f start place cs = rw (f.first.first start, f.single (start + at))

    pub value_wrong : FieldTaken u rest at len false → (k : ℕ) → wrong k ≡ number_of c (take len (drop at rest)) → (start place : ℕ) (cs : List meaning.Component)
        → component_values u place (c ∷ cs) (fields_of start rest) ≡ refused k place
    unfolding component_values refuse put_number
    value_wrong f k e start place cs = rw (f.first.first start, f.single (start + at), f.not_twice (start + at), ← e)

    pub value_got : FieldTaken u rest at len false → (a v : ℤ) → pair a v ≡ number_of c (take len (drop at rest)) → ValueGot u c rest v (at + len)
    unfolding component_values refuse
    value_got f a v e = record {
      within = f.first.within;
      meant = λ start place cs. rw (f.first.first start, f.single (start + at), f.not_twice (start + at), ← e, add_assoc start at len) (number_prefixed place a v _);
    }

-- ## All of them

-- the values read so far, and what the rest means
abbrev pub PointGoing : (u : ℕ) (cs : List meaning.Component) (rest : List ℕ) (at i : ℕ) (values : List ℤ) → Type 0
PointGoing u cs rest at i values = (start : ℕ)
    → component_values u 2 cs (fields_of start rest) ≡ prefixed (take i values) (component_values u (i + 2) (drop i cs) (fields_of (start + at) (drop at rest)))

pub point_start : (u : ℕ) (cs : List meaning.Component) (rest : List ℕ) (values : List ℤ) → PointGoing u cs rest 0 0 values
point_start u cs rest values start = rw (add-zero start) (sym (prefixed_none _))

module _ (u : ℕ) (rest : List ℕ) (count : ℕ) (items : List Component) (at i : ℕ) (values : List ℤ) (d : Component) (h : i < count) (g : count ≤ length items)
    (now : PointGoing u (list_of (take count items)) rest at i values) where
  pub point_on : (v : ℤ) (end : ℕ) → i < length values → ValueGot u (component_of (get_or items i d)) (drop at rest) v end → PointGoing u (list_of (take count items)) rest (at + end) (i + 1) (set values i v)
  point_on v end l got start =
      let p : i + 2 + 1 ≡ i + 1 + 2 = omega arith in
      let a : start + at + end ≡ start + (at + end) = omega arith in
      let m = rw (drop-drop end at rest, p, a) at (got.meant (start + at) (i + 2) (drop (i + 1) (list_of (take count items)))) in
      let t : take (i + 1) (set values i v) ≡ take i values ++ (v ∷ []) = rw (add-one i) (take-suc-set values i v l) in
      now start ∙ rw (listed_next items i count d h g, m, t) (prefixed_both (take i values) (v ∷ []) _)

  pub point_no : (k : ℕ) → ((start place : ℕ) (cs : List meaning.Component) → component_values u place (component_of (get_or items i d) ∷ cs) (fields_of start (drop at rest)) ≡ refused k place)
      → (start : ℕ) → component_values u 2 (list_of (take count items)) (fields_of start rest) ≡ refused k (i + 2)
  unfolding prefixed
  point_no k e start = now start ∙ rw (listed_next items i count d h g, e (start + at) (i + 2) (drop (i + 1) (list_of (take count items))))

module _ (u : ℕ) (rest : List ℕ) (count : ℕ) (items : List Component) (at i : ℕ) (values : List ℤ) (h : i ≡ count) (now : PointGoing u (list_of (take count items)) rest at i values) where
  pub point_extra : (from len : ℕ) → FirstField (drop at rest) from len → (start : ℕ) → component_values u 2 (list_of (take count items)) (fields_of start rest) ≡ refused 11 (i + 2)
  unfolding prefixed component_values
  point_extra from len f start = now start ∙ rw (listed_end items i count (omega arith), f.first (start + at))

  pub point_read : ((n : ℕ) → fields_of n (drop at rest) ≡ []) → (start : ℕ) → component_values u 2 (list_of (take count items)) (fields_of start rest) ≡ cells (take count values)
  unfolding prefixed component_values
  point_read e start = now start ∙ rw (listed_end items i count (omega arith), e (start + at)) (rw (append-nil (take i values), h))

-- ## Its cells
