-- The call of writing: what is refused, the limit, and the room behind the bytes. Assumes nothing.
use Prim.Native.Nat.{ℕ, ◌+◌, ◌*◌, ◌-◌, ◌≤◌, ◌<◌, min}
use native.Mathlib.Omega.{arith}
use mathlib.Core.Path.{◌≡◌, refl, sym, ap, subst, ◌∙◌}
use mathlib.Core.Bool.{Bool, true, false, not, ◌||◌}
use mathlib.Core.List.{List, [], ◌∷◌, ◌++◌, append-nil}
use mathlib.Core.Logic.{◌⊎◌, inl, inr}
use lib.Dec.{ltb}
use lib.ListN.{length, take, drop, replicate, length-append, length-take, length-drop, drop_of_length-le}
use lib.Seq.{take-append-le}
use borrow.Author.Tests.{lt-ltb, le-ltb, ltb-true, ltb-false, leb-true, not-false}
use Rattle.meaning.specs.Bytes.{refuse}
use Rattle.meaning.specs.Model.{Model}
use Rattle.meaning.specs.Check.{Checked, good, bad, check_model}
use Rattle.meaning.specs.Answer.{accepted, refusal, check, check_answer}
use Rattle.meaning.specs.Writing.{Lent, counts_fit, content_of, lines_of}
use Rattle.meaning.specs.Readback.{is_table}
use Rattle.meaning.specs.Width.{Written, writing_refused, cut_lines, write_bytes, write_checked, write}
use Rattle.std.specs.Prelude.{Result, Ok, Err}
use Rattle.std.specs.Result.{is_err}
use Rattle.base.specs.declared.reasons.Reason.{Reason}
use Rattle.base.specs.declared.reasons.Reason.TheVariants.{NoSuchLines, WidthWrong}
use Rattle.base.specs.declared.reasons.Refused.{Refused}
use Rattle.base.specs.Reasons.{number_of}
use Rattle.base.proofs.Fill.{to_end}
use Rattle.model_records.specs.Records.{model_at}
use Rattle.meaning.proofs.Tests.Refuse.{holds}
use Rattle.write_lines.specs.declared.Put.{Put}
use Rattle.write_lines.specs.Puts.{Puts}
use Rattle.write_lines.proofs.Puts.{at_front}
use Rattle.table.specs.Contents.{content_in}
use Rattle.write.specs.Answers.{answer_of, came_to, refusal_of, Fitting, Limited, settled_of}

module _ (b : List ℕ) (t : Lent) (width room : ℕ) where
  pub under_bad : (number first second : ℕ) → refusal number first second ≡ check b → write b t width room ≡ record { answer = refusal number first second; output = replicate room 0 }
  unfolding write write_checked check check_answer
  under_bad number first second h = go (check_model b) refl
    where
      go : (c : Checked) → check_model b ≡ c → write b t width room ≡ record { answer = refusal number first second; output = replicate room 0 }
      go (good m) e = let f : refusal number first second ≡ accepted (length m.topics) 0 0 = rw e at h in cc
      go (bad at) e = let f : refusal number first second ≡ refusal 2 at 0 = rw e at h in rw (e, f) refl

  pub under_good : check_model b ≡ good (model_at b) → write b t width room ≡ write_checked t width room (good (model_at b))
  unfolding write
  under_good e = rw e

-- ## The rooms that an answer leaves

module _ (room : ℕ) (out : List ℕ) (w : Written) where
  pub told : (r : Result ℕ Refused) → came_to room r out ≡ w → answer_of r ≡ w.answer
  unfolding came_to
  told (Ok n) e = ap (λ (x : Written). x.answer) e
  told (Err r) e = ap (λ (x : Written). x.answer) e

  pub left_bytes : (r : Result ℕ Refused) → is_err r ≡ false → came_to room r out ≡ w → out ≡ w.output
  unfolding came_to
  left_bytes (Ok n) h e = ap (λ (x : Written). x.output) e
  left_bytes (Err r) h e = cc

  pub left_zeros : (r : Result ℕ Refused) → is_err r ≡ true → came_to room r out ≡ w → replicate room 0 ≡ w.output
  unfolding came_to
  left_zeros (Ok n) h e = cc
  left_zeros (Err r) h e = ap (λ (x : Written). x.output) e

-- ## 20 and 19

module _ (m : Model) (t : Lent) (width : ℕ) where
  pub width_wrong : (width < 16) ⊎ ((16 ≤ width) × (65535 < width)) → Err WidthWrong ≡ refusal_of m t width
  unfolding refusal_of refuse
  width_wrong (inl h) = rw (lt-ltb width 16 h)
  width_wrong (inr h) = rw (le-ltb width 16 h.0, lt-ltb 65535 width h.1)

  pub not_table : 16 ≤ width → width ≤ 65535 → is_table m t ≡ false → Err NoSuchLines ≡ refusal_of m t width
  unfolding refusal_of refuse
  not_table l h e = rw (le-ltb width 16 l, le-ltb 65535 width h, e)

  pub a_table : 16 ≤ width → width ≤ 65535 → is_table m t ≡ true → Ok tt ≡ refusal_of m t width
  unfolding refusal_of refuse
  a_table l h e = rw (le-ltb width 16 l, le-ltb 65535 width h, e)

  pub refused_with_lem : (room : ℕ) (reason : Reason) → Err reason ≡ refusal_of m t width → write_checked t width room (good m) ≡ writing_refused room (number_of reason) 0
  unfolding refusal_of refuse write_checked
  refused_with_lem room reason r = go (ltb width 16 || ltb 65535 width) refl (not (is_table m t)) refl
    where
      go : (x : Bool) → (ltb width 16 || ltb 65535 width) ≡ x → (y : Bool) → not (is_table m t) ≡ y → write_checked t width room (good m) ≡ writing_refused room (number_of reason) 0
      go true p y q = let f : Err reason ≡ Err WidthWrong = rw p at r in let e : reason ≡ WidthWrong = cc in rw (p, e)
      go false p true q = let f : Err reason ≡ Err NoSuchLines = rw (p, q) at r in let e : reason ≡ NoSuchLines = cc in rw (p, q, e)
      go false p false q = let f : Err reason ≡ Ok tt = rw (p, q) at r in cc

  module _ (r : Ok tt ≡ refusal_of m t width) where
    narrow_enough : (ltb width 16 || ltb 65535 width) ≡ false
    unfolding refusal_of refuse
    narrow_enough = go (ltb width 16 || ltb 65535 width) refl
      where
        go : (x : Bool) → (ltb width 16 || ltb 65535 width) ≡ x → (ltb width 16 || ltb 65535 width) ≡ false
        go false p = p
        go true p = let f : Ok tt ≡ Err WidthWrong = rw p at r in cc

    table_read : not (is_table m t) ≡ false
    unfolding refusal_of refuse
    table_read = go (not (is_table m t)) refl
      where
        go : (y : Bool) → not (is_table m t) ≡ y → not (is_table m t) ≡ false
        go false q = q
        go true q = let f : Ok tt ≡ Err NoSuchLines = rw (narrow_enough, q) at r in cc

    pub written_with : (room : ℕ) → write_checked t width room (good m) ≡ write_bytes room (cut_lines m.mark width (lines_of m t.text (content_of m t)))
    unfolding refuse write_checked
    written_with room = rw (narrow_enough, table_read)

    pub width_fits : (16 ≤ width) × (width ≤ 65535)
    width_fits = go (ltb width 16) refl (ltb 65535 width) refl narrow_enough
      where
        go : (x : Bool) → ltb width 16 ≡ x → (y : Bool) → ltb 65535 width ≡ y → (ltb width 16 || ltb 65535 width) ≡ false → (16 ≤ width) × (width ≤ 65535)
        go false p false q e = (ltb-false width 16 p, ltb-false 65535 width q)
        go true p y q e = let z : true ≡ false = rw p at e in cc
        go false p true q e = let z : true ≡ false = rw (p, q) at e in cc

    pub counts_fit_lem : Fitting m t
    unfolding is_table counts_fit
    counts_fit_lem =
        let f : counts_fit m t ≡ true = holds (counts_fit m t ∷ _ ∷ []) 0 (not-false (is_table m t) table_read) in
        record {
          marks = leb-true _ _ (holds _ 0 f);
          rows = leb-true _ _ (holds _ 1 f);
          cells = leb-true _ _ (holds _ 2 f);
          points = leb-true _ _ (holds _ 3 f);
        }

-- ## The limit

-- the room lent up to the limit comes back with what lies behind it
module _ (file out e : List ℕ) (room : ℕ) (least : room ≡ min (length out) 16777216) where
  part_length : length (take room out) ≡ room
  part_length = length-take room out ∙ (let z : min room (length out) ≡ room = omega arith in z)

  pub limited : (r : Put) → Puts file (record { count = 0; last = 0 }) (take room out) e r → Limited file out (e ++ drop room out) r
  limited r p =
      let size : length e ≡ room = p.room ∙ part_length in
      record {
        size = omega (arith, p.count);
        room = rw (length-append, length-drop) (omega arith);
        bytes = λ h.
            take-append-le (length file) e (drop room out) (omega arith)
            ∙ at_front (length file) file (take room out) e refl (omega (arith, part_length)) (p.bytes (omega (arith, part_length)) (omega (arith, part_length)));
      }

-- the second of two tests refuses
late : {A : Type 0} (x : Bool) (a b : A) → refuse (x || true) a b ≡ a
unfolding refuse
late true a b = refl
late false a b = refl

-- what is settled is what is to be written
pub settled : (file e e' : List ℕ) (r : Put) → Limited file e e' r → settled_of r e' ≡ write_bytes (length e) file
unfolding settled_of write_bytes refuse
settled file e e' r p = go (ltb 16777216 (length file)) refl (ltb (length e) (length file)) refl
  where
    measured : ltb 16777216 (length file) ≡ false → r.count ≡ length file
    measured b = omega (arith, p.size, ltb-false 16777216 (length file) b)

    go : (y : Bool) → ltb 16777216 (length file) ≡ y → (x : Bool) → ltb (length e) (length file) ≡ x → settled_of r e' ≡ write_bytes (length e) file
    go true b x a =
        let more : ltb 16777216 r.count ≡ true = lt-ltb 16777216 r.count (omega (arith, p.size, ltb-true 16777216 (length file) b)) in
        rw (more, b, p.room) (late (ltb (length e) r.count) _ _ ∙ sym (late (ltb (length e) (length file)) _ _))
    go false b true a = rw (measured b, p.room, a)
    go false b false a = rw (measured b, p.room, a, b, p.bytes (omega (arith, ltb-false (length e) (length file) a, ltb-false 16777216 (length file) b)))

-- the tests of the code
pub too_large : (r : Put) (out : List ℕ) (room : ℕ) → room ≡ min (length out) 16777216 → room < r.count → settled_of r out ≡ writing_refused (length out) 21 0
unfolding settled_of refuse
too_large r out room least h = go (ltb 16777216 r.count) refl
  where
    go : (y : Bool) → ltb 16777216 r.count ≡ y → settled_of r out ≡ writing_refused (length out) 21 0
    go true b = rw b (late (ltb (length out) r.count) _ _)
    go false b = rw (lt-ltb (length out) r.count (omega (arith, ltb-false 16777216 r.count b)))

pub fits_both : (r : Put) (out : List ℕ) (room : ℕ) → room ≡ min (length out) 16777216 → r.count ≤ room
    → settled_of r out ≡ record { answer = accepted r.count 0 0; output = take r.count out ++ replicate (length out - r.count) 0 }
unfolding settled_of refuse
fits_both r out room least h = rw (le-ltb (length out) r.count (omega arith), le-ltb 16777216 r.count (omega arith))

-- the file of the used parts
pub used_file : (m : Model) (t : Lent) (mark width width' count : ℕ) → mark ≡ m.mark → width' ≡ width → count ≡ length m.topics + length m.tables
    → cut_lines mark width' (lines_of m t.text (content_in (take count t.marks) (take t.objects t.rows) (take t.cell_count t.cells) (take (4 * t.point_count) t.points)))
    ≡ cut_lines m.mark width (lines_of m t.text (content_of m t))
unfolding content_of
used_file m t mark width width' count a b e = rw (a, b, e) refl

pub limited_as : (file file' e e' : List ℕ) (r : Put) → file ≡ file' → Limited file e e' r → Limited file' e e' r
limited_as file file' e e' r h p = subst (λ (bs : List ℕ). Limited bs e e' r) h p

-- the room zeroed behind k
pub cleared_behind : (k : ℕ) (out ys : List ℕ) → k ≤ length out → ys ≡ replicate (length (take (length out - k) (drop k out))) 0
    → take k out ++ (ys ++ drop (length out - k) (drop k out)) ≡ take k out ++ replicate (length out - k) 0
cleared_behind k out ys h e =
    let nothing_left : drop (length out - k) (drop k out) ≡ [] = drop_of_length-le (drop k out) {i = length out - k} (omega (arith, length-drop k out)) in
    let size : length (take (length out - k) (drop k out)) ≡ length out - k = ap length (to_end out k) ∙ length-drop k out in
    rw (nothing_left, append-nil, e, size) refl
