-- Laws of what a line makes of what is due. Assumes nothing.
use Prim.Native.Nat.{ℕ, suc, ◌+◌, ◌≤◌, ◌<◌}
use native.Mathlib.Omega.{arith}
use mathlib.Core.Path.{◌≡◌, refl, sym, ap, ◌∙◌}
use mathlib.Core.Bool.{Bool, true, false, not}
use mathlib.Core.List.{List, [], ◌∷◌}
use lib.Dec.{ltb}
use lib.ListN.{length, take, drop, get_or}
use borrow.Author.Tests.{not-true, not-false, ltb-true, ltb-false, lt-ltb, le-ltb, eq-eqb, ne_eqb}
use Rattle.base.specs.declared.reasons.Reason.TheVariants.{OtherCode, NameWrong, FieldCount}
use Rattle.meaning.specs.Bytes.{refuse, same}
use Rattle.meaning.specs.Model.{Model}
use Rattle.meaning.specs.Field.{Field, fields_of, field_at, more_than, has_code}
use Rattle.meaning.specs.Reading.{Content}
use Rattle.meaning.specs.Lines.{go, no, bare, named}
use Rattle.base.specs.Fields.{FirstField}
use Rattle.base.specs.declared.reasons.Refusal.{Refusal}
use Rattle.read_state.specs.declared.Due.{Due}
use Rattle.std.proofs.Common.{Result, Ok}
use Rattle.read_state.specs.Meaning.{due_of, next_due_of, marked_of}
use Rattle.read_frame.specs.declared.codes.Head.{Head}
use Rattle.read_frame.specs.Codes.{codes, place_or_0}
use Rattle.read_frame.specs.Heads.{HeadOf}
use Rattle.read_frame.specs.Moves.{refused, end_in, alone_in, named_in, NextDueHolds}

-- a table with nothing in it
abbrev pub nothing_read : Content
nothing_read = record { marks = []; rows = []; cells = []; points = [] }

-- ## Refusals

module _ (b : List ℕ) (c : Content) where
  pub moved_refuse : (t : Bool) (x y : Result Due Refusal) → next_due_of b (refuse t x y) c ≡ refuse t (next_due_of b x c) (next_due_of b y c)
  unfolding refuse
  moved_refuse true x y = refl
  moved_refuse false x y = refl

  pub marked_refuse : (topics : ℕ) (t : Bool) (x y : Result Due Refusal) → marked_of b topics (refuse t x y) c ≡ refuse t (marked_of b topics x c) (marked_of b topics y c)
  unfolding refuse
  marked_refuse topics true x y = refl
  marked_refuse topics false x y = refl

pub holds_refuse : (m : Model) (b : List ℕ) (t : Bool) (x y : Result Due Refusal) → NextDueHolds m b x → NextDueHolds m b y → NextDueHolds m b (refuse t x y)
unfolding refuse
holds_refuse m b true x y h g = h
holds_refuse m b false x y h g = g

-- ## The fields behind the code

-- a list of some fields: those behind the first
pub behind_more : (fs : List Field) (n : ℕ) → 1 ≤ length fs → more_than (n + 1) fs ≡ more_than n (drop 1 fs)
behind_more [] n h = absurd (omega arith)
behind_more (f ∷ fs) n h = go (ltb n (length fs)) refl
  where
    go : (x : Bool) → ltb n (length fs) ≡ x → ltb (n + 1) (suc (length fs)) ≡ ltb n (length fs)
    go true e = lt-ltb (n + 1) (suc (length fs)) (omega (arith, ltb-true n (length fs) e)) ∙ sym e
    go false e = le-ltb (n + 1) (suc (length fs)) (omega (arith, ltb-false n (length fs) e)) ∙ sym e

pub behind_at : (fs : List Field) → 1 ≤ length fs → field_at 2 fs ≡ field_at 1 (drop 1 fs)
behind_at [] h = absurd (omega arith)
behind_at (f ∷ fs) h = refl

pub some_field : (rest : List ℕ) (start len : ℕ) → FirstField rest start len → (s : ℕ) → more_than 0 (fields_of s rest) ≡ true
some_field rest start len f s = rw (f.first s) (lt-ltb 0 (suc (length (fields_of (s + start + len) (drop (start + len) rest)))) (omega arith))

-- ## The end of a line

module _ (field : ℕ) (fs : List Field) (due : Due) (x : Bool) (e : x ≡ not (more_than 0 fs)) where
  pub bare_end : x ≡ true → Ok due ≡ end_in field fs due
  unfolding end_in refuse
  bare_end t = let k : more_than 0 fs ≡ false = not-true (more_than 0 fs) (sym e ∙ t) in rw k

  pub more_end : x ≡ false → (refused FieldCount field) ≡ end_in field fs due
  unfolding end_in refuse
  more_end t = let k : more_than 0 fs ≡ true = not-false (more_than 0 fs) (sym e ∙ t) in rw k

-- ## A code alone

module _ (l : List ℕ) (h : Head) (o : HeadOf l h) (i : ℕ) (b : i < 16) (due : Due) where
  -- another code
  pub other_code_lem : (place_or_0 h.code ≡ i + 1 → ⊥) → (s : ℕ) → (refused OtherCode 1) ≡ alone_in (get_or codes i []) (fields_of s l) due
  unfolding alone_in refuse
  other_code_lem n s = rw (o.code i b s, ne_eqb (place_or_0 h.code) (i + 1) n)

  pub this_code : (r : Result Due Refusal) → place_or_0 h.code ≡ i + 1 → ((s : ℕ) → r ≡ end_in 2 (fields_of s (drop h.behind l)) due) → (s : ℕ) → r ≡ alone_in (get_or codes i []) (fields_of s l) due
  unfolding alone_in end_in refuse
  this_code r e g s =
      let k : 1 ≤ length (fields_of s l) = o.some (omega arith) s in
      rw (o.code i b s, eq-eqb (place_or_0 h.code) (i + 1) e, behind_more (fields_of s l) 0 k, o.others s) (g (s + h.behind))

module _ (b : List ℕ) (c : Content) (code : List ℕ) (fs : List Field) (due : Due) where
  pub alone_moved : next_due_of b (alone_in code fs due) c ≡ refuse (not (has_code code fs)) (no 7 1) (bare fs (go (due_of b due) c))
  unfolding alone_in bare
  alone_moved = moved_refuse b c _ _ _ ∙ ap (refuse (not (has_code code fs)) (no 7 1)) (moved_refuse b c _ _ _)

  pub alone_holds : (m : Model) → NextDueHolds m b (Ok due) → NextDueHolds m b (alone_in code fs due)
  unfolding alone_in
  alone_holds m h = holds_refuse m b _ _ _ tt (holds_refuse m b _ _ _ tt h)

-- ## A name

module _ (rest name : List ℕ) (start len : ℕ) (f : FirstField rest start len) (due : Due) where
  pub other_name : same (take len (drop start rest)) name ≡ false → (s : ℕ) → (refused NameWrong 2) ≡ named_in name (fields_of s rest) due
  unfolding named_in refuse
  other_name e s = rw (f.first s, lt-ltb 0 (suc (length (fields_of (s + start + len) (drop (start + len) rest)))) (omega arith), e)

  pub this_name : same (take len (drop start rest)) name ≡ true → (r : Result Due Refusal) → ((s : ℕ) → r ≡ end_in 3 (fields_of s (drop (start + len) rest)) due) → (s : ℕ) → r ≡ named_in name (fields_of s rest) due
  unfolding named_in end_in refuse
  this_name e r g s =
      let k = fields_of (s + start + len) (drop (start + len) rest) in
      rw (f.first s, lt-ltb 0 (suc (length k)) (omega arith), e, behind_more (record { start = s + start; bytes = take len (drop start rest) } ∷ k) 0 (omega arith)) (g (s + start + len))

pub no_name : (rest name : List ℕ) (due : Due) → ((s : ℕ) → fields_of s rest ≡ []) → (s : ℕ) → (refused FieldCount 2) ≡ named_in name (fields_of s rest) due
unfolding named_in refuse
no_name rest name due e s = rw (e s)

-- behind the code of a line
module _ (b : List ℕ) (c : Content) (name : List ℕ) (fs : List Field) (due : Due) where
  pub named_moved : 1 ≤ length fs → next_due_of b (named_in name (drop 1 fs) due) c ≡ named name fs (go (due_of b due) c)
  unfolding named_in named
  named_moved k =
      rw (behind_more fs 0 k, behind_more fs 1 k, behind_at fs k)
      (moved_refuse b c _ _ _ ∙ ap (refuse _ (no 11 2)) (moved_refuse b c _ _ _ ∙ ap (refuse _ (no 9 2)) (moved_refuse b c _ _ _)))

  pub named_holds : (m : Model) → NextDueHolds m b (Ok due) → NextDueHolds m b (named_in name fs due)
  unfolding named_in
  named_holds m h = holds_refuse m b _ _ _ tt (holds_refuse m b _ _ _ tt (holds_refuse m b _ _ _ tt h))

-- ## A line by its code

module _ (l : List ℕ) (h : Head) (o : HeadOf l h) (i : ℕ) (b : i < 16) (s : ℕ) where
  pub has_code_lem : place_or_0 h.code ≡ i + 1 → has_code (get_or codes i []) (fields_of s l) ≡ true
  has_code_lem e = o.code i b s ∙ eq-eqb (place_or_0 h.code) (i + 1) e

  pub has_not : (place_or_0 h.code ≡ i + 1 → ⊥) → has_code (get_or codes i []) (fields_of s l) ≡ false
  has_not n = o.code i b s ∙ ne_eqb (place_or_0 h.code) (i + 1) n
