-- Some lines, one after the other: what is due and the table so far behind them. As `run`, but each line brings its own start. Assumes nothing.
use Prim.Native.Nat.{ℕ, ◌+◌}
use mathlib.Core.Path.{◌≡◌, refl, ap, ◌∙◌}
use mathlib.Core.List.{List, [], ◌∷◌, ◌++◌}
use lib.ListN.{length}
use Rattle.meaning.specs.Model.{Model}
use Rattle.meaning.specs.Field.{fields_of}
use Rattle.meaning.specs.Reading.{Due, Content, State, behind, Rooms}
use Rattle.meaning.specs.Lines.{Step, go, no, line_due, step_of, ran, after_step, run}
use Rattle.meaning.specs.Right.{Line, with_starts}
use Rattle.meaning.proofs.Tests.Unequal.{no_go, no_ran}

abbrev pub after_go : Step → (Due → Content → Step) → Step
after_go (go due c) next = next due c
after_go (no number field) next = no number field

module _ (m : Model) (rooms : Rooms) (text : List ℕ) where
  abbrev pub step_at : Due → Content → Line → Step
  step_at due c l = line_due m rooms text due l.bytes (fields_of l.start l.bytes) c

  unfoldable pub steps : Due → Content → List Line → Step
  steps due c [] = go due c
  steps due c (l ∷ ls) = after_go (step_at due c l) (λ d x. steps d x ls)

  -- a line, and lines, before others
  pub step_on : (due d : Due) (c x : Content) (l : Line) (ls : List Line) (r : Step) → step_at due c l ≡ go d x → steps d x ls ≡ r → steps due c (l ∷ ls) ≡ r
  unfolding steps
  step_on due d c x l ls r e h = ap (λ (o : Step). after_go o (λ a b. steps a b ls)) e ∙ h

  pub steps_on : (ks : List Line) (due d : Due) (c x : Content) (ls : List Line) (r : Step) → steps due c ks ≡ go d x → steps d x ls ≡ r → steps due c (ks ++ ls) ≡ r
  unfolding steps
  steps_on [] due d c x ls r e h = same due d c x e h
    where
      same : (due d : Due) (c x : Content) → go due c ≡ go d x → steps d x ls ≡ r → steps due c ls ≡ r
      same due d c x e h = ap (λ (o : Step). after_go o (λ a b. steps a b ls)) e ∙ h
  steps_on (k ∷ ks) due d c x ls r e h = by (step_at due c k) e (λ a b q. steps_on ks a d b x ls r q h)
    where
      by : (o : Step) → after_go o (λ a b. steps a b ks) ≡ go d x → ((a : Due) (b : Content) → steps a b ks ≡ go d x → steps a b (ks ++ ls) ≡ r) → after_go o (λ a b. steps a b (ks ++ ls)) ≡ r
      by (go a b) e ih = ih a b e
      by (no number field) e ih = absurd (no_go number field d x e)

  -- the first of some lines
  pub record FirstOf (due d : Due) (c x : Content) (l : Line) (ls : List Line) : Type 0 where
    pub due' : Due
    pub content : Content
    pub goes : step_at due c l ≡ go due' content
    pub others : steps due' content ls ≡ go d x

  pub first_of : (due d : Due) (c x : Content) (l : Line) (ls : List Line) → steps due c (l ∷ ls) ≡ go d x → FirstOf due d c x l ls
  unfolding steps
  first_of due d c x l ls e = by (step_at due c l) refl e
    where
      by : (o : Step) → step_at due c l ≡ o → after_go o (λ a b. steps a b ls) ≡ go d x → FirstOf due d c x l ls
      by (go a b) p e = record { due' = a; content = b; goes = p; others = e }
      by (no number field) p e = absurd (no_go number field d x e)

  -- steps and a run are one
  pub run_steps : (ls : List (List ℕ)) (s s' : State) → run m rooms text s ls ≡ ran s' → steps s.due s.content (with_starts s.start ls) ≡ go s'.due s'.content
  unfolding run steps with_starts step_of
  run_steps [] s s' e = let q : s ≡ s' = cc in ap (λ (t : State). go t.due t.content) q
  run_steps (l ∷ ls) s s' e = by (line_due m rooms text s.due l (fields_of s.start l) s.content) e (λ a b. run_steps ls (behind l a b s) s')
    where
      by : (o : Step) → after_step o l s (λ s₁. run m rooms text s₁ ls) ≡ ran s'
          → ((a : Due) (b : Content) → run m rooms text (behind l a b s) ls ≡ ran s' → steps a b (with_starts (s.start + length l + 1) ls) ≡ go s'.due s'.content)
          → after_go o (λ a b. steps a b (with_starts (s.start + length l + 1) ls)) ≡ go s'.due s'.content
      by (go a b) e ih = ih a b e
      by (no number field) e ih = absurd (no_ran number s.line field s' e)

  pub record RanTo (s : State) (ls : List (List ℕ)) (d : Due) (x : Content) : Type 0 where
    pub final : State
    pub runs : run m rooms text s ls ≡ ran final
    pub due : final.due ≡ d
    pub content : final.content ≡ x

  pub steps_run : (ls : List (List ℕ)) (s : State) (d : Due) (x : Content) → steps s.due s.content (with_starts s.start ls) ≡ go d x → RanTo s ls d x
  unfolding run steps with_starts step_of
  steps_run [] s d x e = record { final = s; runs = refl; due = cc; content = cc }
  steps_run (l ∷ ls) s d x e = by (line_due m rooms text s.due l (fields_of s.start l) s.content) refl e (λ a b. steps_run ls (behind l a b s) d x)
    where
      by : (o : Step) → line_due m rooms text s.due l (fields_of s.start l) s.content ≡ o → after_go o (λ a b. steps a b (with_starts (s.start + length l + 1) ls)) ≡ go d x
          → ((a : Due) (b : Content) → steps a b (with_starts (s.start + length l + 1) ls) ≡ go d x → RanTo (behind l a b s) ls d x) → RanTo s (l ∷ ls) d x
      by (go a b) p e ih = let r = ih a b e in record { final = r.final; runs = rw p r.runs; due = r.due; content = r.content }
      by (no number field) p e ih = absurd (no_go number field d x e)
