-- The claim of specs/ViableClaims.antt. Assumes nothing.
use Prim.Native.Nat.{ℕ, ◌+◌, ◌-◌}
use native.Mathlib.Omega.{arith}
use mathlib.Core.Path.{◌≡◌, sym, ap, subst, ◌∙◌}
use mathlib.Core.Bool.{true, false≢true}
use mathlib.Core.List.{List, [], ◌∷◌, ◌++◌, append_assoc}
use lib.ListN.{length, take, length-append}
use lib.Seq.{take_at, take_all}
use Rattle.meaning.specs.Unfold.{unfolded_text, lines}
use Rattle.meaning.specs.Faults.{FirstFault}
use Rattle.meaning.specs.Faults as faults
use Rattle.meaning.specs.Model.{Model}
use Rattle.meaning.specs.Check.{good, GoodModel}
use Rattle.meaning.specs.Reading.{Rooms}
use Rattle.meaning.specs.Right.{with_starts}
use Rattle.meaning.specs.Reasons.{Place, end, Reason, Reached}
use Rattle.meaning.specs.RightClaims.{First, too_large, bad_model, bad_unfolding, no_room, bad_line, full_line, line_missing, object_missing, Opened, line_behind}
use Rattle.meaning.specs.RoomClaims.{is_one_of}
use Rattle.meaning.specs.ViableClaims.{RightAside, Viable, Lost, StandsFirst, PlaceIsFirst}
use Rattle.meaning.proofs.Model.GoodModels as models
use Rattle.meaning.proofs.Right.First.{opened_unfolds}
use Rattle.meaning.proofs.Right.Behind.{starts_append}
use Rattle.meaning.proofs.Right.Complete.{reached_complete}
use Rattle.meaning.proofs.Right.Lost.{refused_lost, missing_lost}
use Rattle.meaning.proofs.Right.GoodPlaces.{reached_good}
use Rattle.meaning.proofs.Right.Endings.{ReachesEnd, place_ending}
use Rattle.meaning.proofs.Right.Claims.{refusal_is_first}

-- ## Lines that have come to a place can be continued

module _ (m : Model) (is_good : GoodModel m) where
  right_aside : (ls : List (List ℕ)) → ReachesEnd m (with_starts 0 ls) → RightAside m ls
  right_aside ls e =
      let c = reached_complete m ls is_good e.used e.cells e.points e.reached in
      record { delivered = c.delivered; file = c.file; unique = c.unique }

  viable : (ls : List (List ℕ)) {x : Place} {used : List (List ℕ)} {cells points : ℕ} → Reached m (with_starts 0 ls) x used cells points → Viable m ls
  viable ls {x} r =
      let e = place_ending m is_good x (reached_good m is_good r) in
      record { others = e.lines; permitted = e.permits; right = right_aside (ls ++ e.lines) (rw (starts_append 0 ls e.lines) (e.leads (0 + length (unfolded_text ls)) r)) }

  -- ## Where the refusal stands

  line_first : (before : List (List ℕ)) (l : List ℕ) (after : List (List ℕ)) {x : Place} {used : List (List ℕ)} {cells points n k : ℕ} → Reached m (with_starts 0 before) x used cells points
      → Reason m used x (line_behind before l) n k → StandsFirst m (before ++ (l ∷ after)) (1 + length before)
  line_first before l after r why = record {
    number = omega arith;
    before = subst (Viable m) (sym (take_at before (l ∷ after) (1 + length before - 1) (omega arith))) (viable before r);
    with = λ _. subst (Lost m) (sym with_it) (λ others a. refused_lost m is_good before l r why others (rw (append_assoc before (l ∷ []) others) at a));
    past = omega (arith, length-append before (l ∷ after));
    all = λ a. refused_lost m is_good before l r why after a;
  }
    where
      with_it : take (1 + length before) (before ++ (l ∷ after)) ≡ before ++ (l ∷ [])
      with_it = ap (take (1 + length before)) (sym (append_assoc before (l ∷ []) after)) ∙ take_at (before ++ (l ∷ [])) after (1 + length before) (omega (arith, length-append before (l ∷ [])))

  missing_first : (ls : List (List ℕ)) {x : Place} {used : List (List ℕ)} {cells points : ℕ} → Reached m (with_starts 0 ls) x used cells points → (x ≡ end → ⊥) → StandsFirst m ls (1 + length ls)
  missing_first ls r other = record {
    number = omega arith;
    before = subst (Viable m) (sym (take_all (1 + length ls - 1) ls (omega arith))) (viable ls r);
    with = λ l. absurd (omega arith);
    past = omega arith;
    all = missing_lost m is_good ls r other;
  }

-- ## The first refusal

-- the numbers of lines
abbrev OfLines : ℕ → Type 0
OfLines number = is_one_of number (7 ∷ 8 ∷ 9 ∷ 10 ∷ 11 ∷ 12 ∷ 13 ∷ 14 ∷ 15 ∷ 18 ∷ []) ≡ true

fault_other : {mark : ℕ} {file : List ℕ} {number line : ℕ} → FirstFault mark file number line → OfLines number → ⊥
unfolding is_one_of
fault_other (faults.FirstFault.unended f x b w l) h = false≢true h
fault_other (faults.FirstFault.marked f b e m) h = false≢true h
fault_other (faults.FirstFault.uncontinued f others b e l p) h = false≢true h
fault_other (faults.FirstFault.unpermitted f p others b e l q) h = false≢true h

module _ (model file : List ℕ) (m : Model) (ls : List (List ℕ)) (o : Opened model file m ls) where
  -- a file is opened in one way
  opened_alike : {m' : Model} {ls' : List (List ℕ)} {line : ℕ} → Opened model file m' ls' → StandsFirst m' ls' line → StandsFirst m ls line
  opened_alike {m'} {ls'} {line} o' s =
      let models-e : good m' ≡ good m = sym o'.is_good ∙ o.is_good in
      let model-e : m' ≡ m = cc in
      let lines-e : lines ls' ≡ lines ls = sym (opened_unfolds model file _ ls' o') ∙ (rw model-e (opened_unfolds model file _ ls o)) in
      let line-e : ls' ≡ ls = cc in
      subst (λ (n : Model). StandsFirst n ls line) model-e (subst (λ (ks : List (List ℕ)). StandsFirst m' ks line) line-e s)

  stands_first : (rooms : Rooms) {number line field : ℕ} → First model file rooms number line field → OfLines number → StandsFirst m ls line
  unfolding is_one_of
  stands_first rooms (too_large l) h = absurd (false≢true h)
  stands_first rooms (bad_model s e) h = absurd (false≢true h)
  stands_first rooms (bad_unfolding s e f) h = absurd (fault_other f h)
  stands_first rooms (no_room o' r) h = absurd (false≢true h)
  stands_first rooms (bad_line {m = m'} before l after o' room c why) h = opened_alike o' (line_first m' (models.checked_good model m' o'.is_good) before l after c.reached why)
  stands_first rooms (full_line before l after o' room c f n) h = absurd (false≢true h)
  stands_first rooms (line_missing {m = m'} {ls = ls'} o' room c other) h = opened_alike o' (missing_first m' (models.checked_good model m' o'.is_good) ls' c.reached other)
  stands_first rooms (object_missing o' f u e n) h = absurd (false≢true h)

pub place_is_first : PlaceIsFirst
place_is_first model file m ls rooms number line field o h k = stands_first model file m ls o rooms (refusal_is_first model file rooms number line field h) k
