-- One turn of the loop over the lines: what the rest means is what the whole meant. Assumes nothing.
use Prim.Native.Nat.{ℕ, ◌+◌, ◌-◌, ◌≤◌, ◌<◌}
use mathlib.Core.Path.{◌≡◌, sym, ap, ◌∙◌}
use mathlib.Core.List.{List, ◌∷◌}
use native.Mathlib.Omega.{arith}
use lib.ListN.{length, take, drop, length-drop}
use lib.Seq.{length-take-le}
use Rattle.meaning.specs.Model.{Model}
use Rattle.meaning.specs.Reading.{Due, Content, State, behind, Rooms}
use Rattle.meaning.specs.Lines.{go, no, step_of, Run, ran, stopped, run}
use Rattle.read_text.specs.Text.{lines_of, line_end}
use Rattle.read_text.proofs.TextLines.{split, past}

module _ (m : Model) (rooms : Rooms) (text : List ℕ) where
  run_go : (s : State) (due : Due) (c : Content) (l : List ℕ) (ls : List (List ℕ)) → step_of m rooms text l s ≡ go due c
      → run m rooms text s (l ∷ ls) ≡ run m rooms text (behind l due c s) ls
  unfolding run
  run_go s due c l ls e = rw e

  run_no : (s : State) (number field : ℕ) (l : List ℕ) (ls : List (List ℕ)) → step_of m rooms text l s ≡ no number field
      → run m rooms text s (l ∷ ls) ≡ stopped number s.line field
  unfolding run
  run_no s number field l ls e = rw e

  -- behind the last line
  pub run_end : (at : ℕ) (s : State) → length text ≤ at → run m rooms text s (lines_of (drop at text)) ≡ ran s
  unfolding run
  run_end at s h = rw (past text at h)

  -- before a line that begins at `at` and ends at e, in the state s whose next line starts there
  module _ (line at e : ℕ) (due : Due) (c : Content) (o : Run) (h : at < length text) (p : e ≡ at + line_end (drop at text)) (q : e ≤ length text)
      (i : run m rooms text (record { line = line; start = at; due = due; content = c }) (lines_of (drop at text)) ≡ o) where
    abbrev pub here : State
    here = record { line = line; start = at; due = due; content = c }

    pub forward : (due' : Due) (c' : Content) → step_of m rooms text (take (e - at) (drop at text)) here ≡ go due' c'
        → run m rooms text (record { line = line + 1; start = e + 1; due = due'; content = c' }) (lines_of (drop (e + 1) text)) ≡ o
    forward due' c' g =
        let l : length (take (e - at) (drop at text)) ≡ e - at = length-take-le _ _ (rw length-drop (omega arith)) in
        let k : e + 1 ≡ at + length (take (e - at) (drop at text)) + 1 = omega arith in
        ap (λ (j : ℕ). run m rooms text (record { line = line + 1; start = j; due = due'; content = c' }) (lines_of (drop (e + 1) text))) k
        ∙ sym (run_go here due' c' _ (lines_of (drop (e + 1) text)) g)
        ∙ rw (split text at e h p) at i

    pub refused : (number field : ℕ) → step_of m rooms text (take (e - at) (drop at text)) here ≡ no number field → stopped number line field ≡ o
    refused number field g = sym (run_no here number field _ (lines_of (drop (e + 1) text)) g) ∙ rw (split text at e h p) at i
