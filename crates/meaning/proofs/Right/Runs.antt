-- A run over some lines: where it stopped, and what is behind them. Assumes nothing.
use Prim.Native.Nat.{ℕ, ◌+◌}
use native.Mathlib.Omega.{arith}
use mathlib.Core.Path.{◌≡◌, refl, sym, ap, ◌∙◌}
use mathlib.Core.Bool.{Bool, true, false}
use mathlib.Core.List.{List, [], ◌∷◌, ◌++◌}
use lib.ListN.{length, length-append}
use Rattle.meaning.specs.Bytes.{refuse}
use Rattle.meaning.specs.Unfold.{unfolded_text}
use Rattle.meaning.specs.Model.{Model}
use Rattle.meaning.specs.Reading.{Due, is_complete, Content, State, behind, Rooms}
use Rattle.meaning.specs.Lines.{Step, go, no, step_of, Run, ran, stopped, after_step, run, at_end, read_lines}
use Rattle.meaning.proofs.Tests.Unequal.{no_ran}

-- ## Where a run stopped

module _ (m : Model) (rooms : Rooms) (own : List ℕ) where
  pub record StoppedAt (s : State) (ls : List (List ℕ)) (number line field : ℕ) : Type 0 where
    pub before : List (List ℕ)
    pub l : List ℕ
    pub after : List (List ℕ)
    pub is : ls ≡ before ++ (l ∷ after)
    pub state : State
    pub runs : run m rooms own s before ≡ ran state
    pub refuses : step_of m rooms own l state ≡ no number field
    pub at : line ≡ s.line + length before

  pub stopped_at : (ls : List (List ℕ)) (s : State) (number line field : ℕ) → run m rooms own s ls ≡ stopped number line field → StoppedAt s ls number line field
  unfolding run
  stopped_at [] s number line field e = absurd (no_ran number line field s (sym e))
  stopped_at (l ∷ ls) s number line field e = by (step_of m rooms own l s) refl e (λ d c. stopped_at ls (behind l d c s) number line field)
    where
      by : (o : Step) → step_of m rooms own l s ≡ o → after_step o l s (λ s₁. run m rooms own s₁ ls) ≡ stopped number line field
          → ((d : Due) (c : Content) → run m rooms own (behind l d c s) ls ≡ stopped number line field → StoppedAt (behind l d c s) ls number line field) → StoppedAt s (l ∷ ls) number line field
      by (go d c) p e ih =
          let r = ih d c e in
          let at_line_lem = r.at in
          record { before = l ∷ r.before; l = r.l; after = r.after; is = ap (λ (y : List (List ℕ)). l ∷ y) r.is; state = r.state; runs = rw p r.runs; refuses = r.refuses; at = omega arith }
      by (no n f) p e ih =
          let same-n : n ≡ number = cc in
          let same-f : f ≡ field = cc in
          let same-l : s.line ≡ line = cc in
          record { before = []; l = l; after = ls; is = refl; state = s; runs = refl; refuses = rw (← same-n, ← same-f) p; at = omega arith }

  -- lines that pass, and others
  run_append : (ks ls : List (List ℕ)) (s s' : State) → run m rooms own s ks ≡ ran s' → run m rooms own s (ks ++ ls) ≡ run m rooms own s' ls
  unfolding run
  run_append [] ls s s' e = let q : s ≡ s' = cc in ap (λ (t : State). run m rooms own t ls) q
  run_append (k ∷ ks) ls s s' e = by (step_of m rooms own k s) e (λ d c. run_append ks ls (behind k d c s) s')
    where
      by : (o : Step) → after_step o k s (λ s₁. run m rooms own s₁ ks) ≡ ran s' → ((d : Due) (c : Content) → run m rooms own (behind k d c s) ks ≡ ran s' → run m rooms own (behind k d c s) (ks ++ ls) ≡ run m rooms own s' ls)
          → after_step o k s (λ s₁. run m rooms own s₁ (ks ++ ls)) ≡ run m rooms own s' ls
      by (go d c) e ih = ih d c e
      by (no n f) e ih = absurd (no_ran n s.line f s' e)

  run_line : (ls : List (List ℕ)) (s s' : State) → run m rooms own s ls ≡ ran s' → s'.line ≡ s.line + length ls
  unfolding run
  run_line [] s s' e = let q : s ≡ s' = cc in rw (← q) (omega arith)
  run_line (l ∷ ls) s s' e = by (step_of m rooms own l s) e (λ d c. run_line ls (behind l d c s) s')
    where
      by : (o : Step) → after_step o l s (λ s₁. run m rooms own s₁ ls) ≡ ran s' → ((d : Due) (c : Content) → run m rooms own (behind l d c s) ls ≡ ran s' → s'.line ≡ s.line + 1 + length ls)
          → s'.line ≡ s.line + length (l ∷ ls)
      by (go d c) e ih = let z = ih d c e in omega arith
      by (no n f) e ih = absurd (no_ran n s.line f s' e)

  -- where the next line starts
  pub run_start : (ls : List (List ℕ)) (s s' : State) → run m rooms own s ls ≡ ran s' → s'.start ≡ s.start + length (unfolded_text ls)
  unfolding run unfolded_text
  run_start [] s s' e = let q : s ≡ s' = cc in rw (← q) (omega arith)
  run_start (l ∷ ls) s s' e = by (step_of m rooms own l s) e (λ d c. run_start ls (behind l d c s) s')
    where
      by : (o : Step) → after_step o l s (λ s₁. run m rooms own s₁ ls) ≡ ran s' → ((d : Due) (c : Content) → run m rooms own (behind l d c s) ls ≡ ran s' → s'.start ≡ s.start + length l + 1 + length (unfolded_text ls))
          → s'.start ≡ s.start + length (l ++ (0x0a ∷ unfolded_text ls))
      by (go d c) e ih = let z = ih d c e in omega (arith, z, length-append l (0x0a ∷ unfolded_text ls))
      by (no n f) e ih = absurd (no_ran n s.line f s' e)

  pub passed_then : (before after : List (List ℕ)) (l : List ℕ) (s s' : State) (number field : ℕ) → run m rooms own s before ≡ ran s' → step_of m rooms own l s' ≡ no number field
      → run m rooms own s (before ++ (l ∷ after)) ≡ stopped number (s.line + length before) field
  unfolding run
  passed_then before after l s s' number field e h = run_append before (l ∷ after) s s' e ∙ rw (h, run_line before s s' e)

  pub stopped_lines : (s : State) (ls : List (List ℕ)) (number line field : ℕ) → run m rooms own s ls ≡ stopped number line field → read_lines m rooms own s ls ≡ stopped number line field
  unfolding read_lines
  stopped_lines s ls number line field e = rw e

  pub missing_lines : (s s' : State) (ls : List (List ℕ)) → run m rooms own s ls ≡ ran s' → is_complete s'.due ≡ false → read_lines m rooms own s ls ≡ stopped 7 (s.line + length ls) 1
  unfolding read_lines at_end refuse
  missing_lines s s' ls e d = rw (e, d, run_line ls s s' e)

  pub complete_lines : (s s' : State) (ls : List (List ℕ)) → run m rooms own s ls ≡ ran s' → is_complete s'.due ≡ true → read_lines m rooms own s ls ≡ ran s'
  unfolding read_lines at_end refuse
  complete_lines s s' ls e d = rw (e, d)

  -- what the lines came to
  pub data LinesCame (s : State) (ls : List (List ℕ)) : Type 0 where
    stops_at : (number line field : ℕ) → run m rooms own s ls ≡ stopped number line field → LinesCame s ls
    lacks : (s' : State) → run m rooms own s ls ≡ ran s' → is_complete s'.due ≡ false → LinesCame s ls
    passes : (s' : State) → run m rooms own s ls ≡ ran s' → is_complete s'.due ≡ true → LinesCame s ls

  pub lines_came : (s : State) (ls : List (List ℕ)) → LinesCame s ls
  lines_came s ls = by (run m rooms own s ls) refl
    where
      due_by : (s' : State) → run m rooms own s ls ≡ ran s' → (b : Bool) → is_complete s'.due ≡ b → LinesCame s ls
      due_by s' e true h = passes s' e h
      due_by s' e false h = lacks s' e h

      by : (r : Run) → run m rooms own s ls ≡ r → LinesCame s ls
      by (stopped number line field) e = stops_at number line field e
      by (ran s') e = due_by s' e _ refl
