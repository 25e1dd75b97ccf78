-- A field that is due, as the next field of the rest of a line: what each of its cases means for the row. Assumes nothing.
use Prim.Native.Nat.{ℕ, ◌+◌, ◌-◌, ◌≤◌, ◌<◌}
use native.Mathlib.Omega.{arith}
use mathlib.Core.Path.{◌≡◌, refl, sym, ◌∙◌, subst}
use mathlib.Core.Bool.{Bool, true, false}
use mathlib.Core.List.{List, [], ◌∷◌}
use lib.IntN.{ℤ, pos}
use lib.ListN.{length, take, drop, length-drop}
use lib.Seq.{sets, drop-drop}
use Rattle.meaning.specs.Field.{fields_of}
use Rattle.meaning.specs.Value.{value_of, is_undefined, is_undefined_twice}
use Rattle.meaning.specs.Row.{Pair, refused}
use Rattle.base.specs.Fields.{FirstField}
use Rattle.base.proofs.Fill.{to_end}
use Rattle.value_read.specs.Meant.{field_of}
use Rattle.std.proofs.Common.{Option, Ok, Err}
use Rattle.base.specs.declared.reasons.Refusal.{Refusal}
use Rattle.base.specs.Reasons.{number_of}
use Rattle.read_fields.specs.FieldForm.{FieldTaken, TwiceTaken, TakenAs, Takes}
use Rattle.read_fields.specs.declared.taking.Form.{Form}
use Rattle.read_fields.specs.declared.taking.Form.TheVariants.{Defined, Undefined, Twice}
use Rattle.read_fields.specs.declared.taking.Taken.{Taken}
use Rattle.model_records.specs.Attributes.{of_kind}
use Rattle.read_fields.specs.RowProgress.{forbids, moved, filled, due, CursorReady, Puts, Fills}
use Rattle.read_fields.specs.declared.filling.RowCursor.{RowCursor}
use Rattle.read_fields.specs.declared.filling.FieldRule.{FieldRule}
use Rattle.read_fields.specs.declared.filling.RowProgress.TheVariants.{On, RestUndefined}
use Rattle.read_fields.proofs.Pairs.{prefixed_none, due_missing, due_covered, due_covered_needed, due_undefined, due_undefined_needed, due_forbidden, due_wrong, due_defined}

-- the fields that are left begin with the field found in the rest
pub next_left : (start at from len : ℕ) (rest : List ℕ) → FirstField (drop at rest) from len
    → fields_of (start + at) (drop at rest) ≡ field_of (start + (at + from)) (take len (drop (at + from) rest)) ∷ fields_of (start + (at + from + len)) (drop (at + from + len) rest)
next_left start at from len rest f =
    let a : start + at + from ≡ start + (at + from) = omega arith in
    let e : start + at + from + len ≡ start + (at + from + len) = omega arith in
    let n : at + (from + len) ≡ at + from + len = omega arith in
    f.first (start + at) ∙ rw (drop-drop from at rest, drop-drop (from + len) at rest, n, e, a)

pub next_within : (at from len : ℕ) (rest : List ℕ) → at ≤ length rest → FirstField (drop at rest) from len → (at + from + len ≤ length rest) × (at < at + from + len)
next_within at from len rest h f = (omega (arith, f.within, length-drop at rest), omega (arith, f.some))

-- what was taken from the bytes behind a place, in its case
pub taken : (u : ℕ) (rest : List ℕ) (at : ℕ) {r t : Option Taken} → r ≡ t → Takes u (take (length rest - at) (drop at rest)) r → Takes u (drop at rest) t
taken u rest at {r = r} e f = subst (Takes u (drop at rest)) e (subst (λ (l : List ℕ). Takes u l r) (to_end rest at) f)

-- the same, by the form of the field
pub formed : (u : ℕ) (rest : List ℕ) (at len : ℕ) {form x : Form} → form ≡ x → TakenAs u rest at len form → TakenAs u rest at len x
formed u rest at len e f = subst (TakenAs u rest at len) e f

module _ (u start : ℕ) (rest : List ℕ) (asked : FieldRule) (s : RowCursor) (ready : CursorReady start rest 2 s) where
  pub missing : ((n : ℕ) → fields_of n (drop s.at rest) ≡ []) → (ps : List Pair) → due u start rest asked s ps ≡ refused 11 s.place
  missing e ps = rw (e (start + s.at)) (due_missing u s.place _ ps asked.needed asked.forbidden)

  module _ (from len : ℕ) where
    twice_at : TwiceTaken u (drop s.at rest) from len → (n : ℕ) → is_undefined_twice u (field_of n (take len (drop (s.at + from) rest))) ≡ true
    twice_at f n = rw (drop-drop from s.at rest) at (f.twice n)

    twice_needed : asked.needed ≡ true → TwiceTaken u (drop s.at rest) from len → (ps : List Pair) → due u start rest asked s ps ≡ refused 12 s.place
    twice_needed e f ps = rw (e, next_left start s.at from len rest f.first) (due_covered_needed u s.place _ ps _ _ asked.forbidden (twice_at f _))

    pub twice_covers : (l : List ℤ) → asked.needed ≡ false → TwiceTaken u (drop s.at rest) from len
        → Fills u start rest 2 (due u start rest asked s) s l l (Ok (RestUndefined (moved s (s.at + from + len)) 1))
    twice_covers l e f =
        let w = next_within s.at from len rest ready.within f.first in (
          omega arith,
          record {
            values = [];
            meant = λ ps. rw (e, next_left start s.at from len rest f.first) (due_covered u s.place _ ps _ _ asked.forbidden (twice_at f _) ∙ sym (prefixed_none _));
            used = omega arith;
            stored = refl;
            few = omega arith;
            within = w.0;
            placed = omega (arith, ready.placed);
          },
        )

    module _ (undefined : Bool) (f : FieldTaken u (drop s.at rest) from len undefined) where
      once : (n : ℕ) → is_undefined_twice u (field_of n (take len (drop (s.at + from) rest))) ≡ false
      once n = rw (drop-drop from s.at rest) at (f.not_twice n)

      which : (n : ℕ) → is_undefined u (field_of n (take len (drop (s.at + from) rest))) ≡ undefined
      which n = rw (drop-drop from s.at rest) at (f.single n)

      undefined_needed : undefined ≡ true → asked.needed ≡ true → (ps : List Pair) → due u start rest asked s ps ≡ refused 12 s.place
      undefined_needed d e ps = rw (e, next_left start s.at from len rest f.first) (due_undefined_needed u s.place _ ps _ _ asked.forbidden (once _) (which _ ∙ d))

      defined_forbidden : undefined ≡ false → asked.forbidden ≡ true → (ps : List Pair) → due u start rest asked s ps ≡ refused 12 s.place
      defined_forbidden d e ps = rw (e, next_left start s.at from len rest f.first) (due_forbidden u s.place _ ps _ _ asked.needed (once _) (which _ ∙ d))

      pub undefined_filled : undefined ≡ true → asked.needed ≡ false → (entry exit : List ℤ) → exit ≡ sets entry s.used (pos 0 ∷ pos 0 ∷ [])
          → Fills u start rest 2 (due u start rest asked s) s entry exit (Ok (On (filled (moved s (s.at + from + len)) false)))
      undefined_filled d e entry exit x =
          let w = next_within s.at from len rest ready.within f.first in
          record {
            values = pos 0 ∷ pos 0 ∷ [];
            meant = λ ps. rw (e, next_left start s.at from len rest f.first) (due_undefined u s.place _ ps _ _ asked.forbidden (once _) (which _ ∙ d));
            used = refl;
            stored = x;
            few = omega arith;
            within = w.0;
            placed = omega (arith, ready.placed, w.1);
          }

      module _ (d : undefined ≡ false) (e : asked.forbidden ≡ false) (entry exit : List ℤ) where
        pub defined_filled : (t : RowCursor)
            → Puts (value_of (of_kind asked.kind) (field_of (start + (s.at + from)) (take len (drop (s.at + from) rest)))) (moved s (s.at + from + len)) entry exit (Ok t)
            → Fills u start rest 2 (due u start rest asked s) s entry exit (Ok (On t))
        defined_filled t p =
            let w = next_within s.at from len rest ready.within f.first in
            rw p.state (record {
              values = p.first ∷ p.second ∷ [];
              meant = λ ps. rw (e, next_left start s.at from len rest f.first) (due_defined u s.place _ ps _ _ asked.needed p.first p.second (once _) (which _ ∙ d) p.value);
              used = refl;
              stored = p.stored;
              few = omega arith;
              within = w.0;
              placed = omega (arith, ready.placed, w.1);
            })

        pub defined_wrong : (r : Refusal)
            → Puts (value_of (of_kind asked.kind) (field_of (start + (s.at + from)) (take len (drop (s.at + from) rest)))) (moved s (s.at + from + len)) entry exit (Err r)
            → Fills u start rest 2 (due u start rest asked s) s entry exit (Err r)
        defined_wrong r p =
            λ ps. rw (p.1, e, next_left start s.at from len rest f.first) (due_wrong u s.place _ ps _ _ asked.needed (number_of r.reason) (once _) (which _ ∙ d) p.0)

    -- a field against what it has to be
    pub form_wrong : (form : Form) → TakenAs u (drop s.at rest) from len form → forbids asked form ≡ true → (ps : List Pair) → due u start rest asked s ps ≡ refused 12 s.place
    form_wrong Defined f e = defined_forbidden false f refl e
    form_wrong Undefined f e = undefined_needed true f refl e
    form_wrong Twice f e = twice_needed e f
