-- What begins a cut, and the first fault behind it: `cut_begun` and `begun_cut`, what begins a cut and ends with a line is one; `first_fault` and `fault_first`, unfolding gives the first fault and no other.
-- Assumes nothing.
use Prim.Native.Nat.{ℕ, suc, ◌+◌, ◌<◌}
use native.Mathlib.Nat.{add-zero, zero-add}
use native.Mathlib.Omega.{arith}
use mathlib.Core.Path.{◌≡◌, refl, sym, ap, ◌∙◌, subst}
use mathlib.Core.Bool.{Bool, true, false, not, ◌&&◌, and-true, and-false, false≢true, true≢false}
use mathlib.Core.List.{List, [], ◌∷◌, ◌++◌, append_assoc, append-nil}
use lib.ListN.{length, length-append}
use borrow.Author.Tests.{not-true, not-false}
use Rattle.meaning.specs.Bytes.{choose, refuse, permitted, all_permitted, ends, without_last, prefix, cont}
use Rattle.meaning.specs.Unfold.{Physical, physical, none, Unfolded, lines, fault, put, drop_if, without_last_if, next, unfold_lines, unfold_file}
use Rattle.meaning.specs.Cut as cut
use Rattle.meaning.specs.Cut.{End, Cut, Mark}
use Rattle.meaning.specs.Faults as faults
use Rattle.meaning.specs.Faults.{lead, Begun, Ended, FirstFault}
use Rattle.meaning.proofs.Tests.Refuse.{both, refused_or}
use Rattle.meaning.proofs.Values.Digits.{every_parts}
use Rattle.meaning.proofs.Unfolding.Physical.{init_split, phys_tail, phys_nil, phys_ended, Lined, l_tail, l_line, lined, some_left}
use Rattle.meaning.proofs.Unfolding.Cuts.{Ready, ready_cons, permitted_lead, lead_append, permitted_snoc, mark_permitted, ends_lead, step_last, step_more, phys_lead, fault_lines, lead_split}

-- ## A line as it stands, with its end

-- a part between what stands before it and what follows it
between : (k : Bool) (g p e f : List ℕ) → (g ++ (lead k p ++ e)) ++ f ≡ g ++ lead k (p ++ (e ++ f))
between k g p e f = append_assoc g (lead k p ++ e) f ∙ ap (λ (x : List ℕ). g ++ x) (append_assoc (lead k p) e f ∙ lead_append k p (e ++ f))

-- the mark is the last byte of the part
marked_part : (k : Bool) (m : ℕ) (p e : List ℕ) → lead k (p ++ m ∷ []) ++ e ≡ lead k p ++ (m ∷ e)
marked_part k m p e = ap (λ (x : List ℕ). x ++ e) (sym (lead_append k p (m ∷ []))) ∙ append_assoc (lead k p) (m ∷ []) e

-- ## Physical lines

-- no line is left exactly where no byte is
none_empty : {p : Physical} {f : List ℕ} → Lined p f → none p ≡ true → f ≡ []
unfolding none
none_empty (l_tail {l = []} w) h = refl
none_empty (l_tail {l = b ∷ l} w) h = absurd (false≢true h)
none_empty (l_line e s) h = absurd (false≢true h)

ended_some : {x b : List ℕ} → Ended x b → 0 < length b
ended_some (faults.lf {x = x} w n) = rw (length-append x (0x0a ∷ [])) (omega arith)
ended_some (faults.crlf {x = x} w) = rw (length-append x (0x0d ∷ 0x0a ∷ [])) (omega arith)

empty_none : {p : Physical} {f : List ℕ} → Lined p f → f ≡ [] → none p ≡ true
unfolding none
empty_none (l_tail w) e = rw e
empty_none (l_line {b = b} {f = f} n s) e = let z : length (b ++ f) ≡ 0 = ap length e in absurd (omega (arith, length-append b f, ended_some n))

-- a line end behind a line
record EndOf (x b : List ℕ) : Type 0 where
  bytes : List ℕ
  end : End bytes
  is : b ≡ x ++ bytes

end_of : {x b : List ℕ} → Ended x b → EndOf x b
end_of (faults.lf w n) = record { bytes = 0x0a ∷ []; end = cut.lf; is = refl }
end_of (faults.crlf w) = record { bytes = 0x0d ∷ 0x0a ∷ []; end = cut.crlf; is = refl }

-- ## Faults

same_fault : {m : ℕ} {f : List ℕ} {a b c d : ℕ} → fault a b ≡ fault c d → FirstFault m f a b → FirstFault m f c d
same_fault {a = a} {b = b} {c = c} {d = d} e h = let p : a ≡ c = cc in let q : b ≡ d = cc in rw (← p, ← q) h

-- a fault behind what was put is the one of what follows
put_fault : (t : Bool) (p : List ℕ) (u : Unfolded) (a b : ℕ) → put t p u ≡ fault a b → u ≡ fault a b
unfolding put
put_fault t p (fault k n) a b h = h
put_fault true p (lines []) a b h = absurd (fault_lines a b _ (sym h))
put_fault true p (lines (l ∷ ls)) a b h = absurd (fault_lines a b _ (sym h))
put_fault false p (lines ls) a b h = absurd (fault_lines a b _ (sym h))

module _ (m : ℕ) where
  -- a file that begins a cut, and a cut of what follows
  begun_on : {ls : List (List ℕ)} {f : List ℕ} → Cut m ls f → (n : ℕ) (k : Bool) (g : List ℕ) → Begun m n k g → Ready k ls → Begun m (n + length ls) false (g ++ lead k f)
  unfolding choose
  begun_on cut.done n true g b r = absurd r
  begun_on cut.done n false g b r = rw (append-nil g, add-zero n) b
  begun_on (cut.last p {e = e} {f = f} {ls = ls} ok ne end c) n k g b r =
      let z : n + suc (length ls) ≡ n + 1 + length ls = omega arith in
      rw (z, ← between k g p e f) (begun_on c (n + 1) false (g ++ (lead k p ++ e)) (faults.last p b ok ne end) tt)
  begun_on (cut.more p {e = e} {l = l} {f = f} {ls = ls} ok end c) n k g b r =
      rw (← between k g p (m ∷ e) (cont ++ f)) (begun_on c n true (g ++ (lead k p ++ (m ∷ e))) (faults.more p b ok end) tt)

  pub cut_begun : {ls : List (List ℕ)} {f : List ℕ} → Cut m ls f → Begun m (length ls) false f
  unfolding choose
  cut_begun {ls} c = rw (zero-add (length ls)) at (begun_on c 0 false [] faults.none tt)

  -- a cut of so many lines
  pub record SomeCut (n : ℕ) (f : List ℕ) : Type 0 where
    pub of : List (List ℕ)
    pub cut : Cut m of f
    pub count : length of ≡ n

  cut_on : {n : ℕ} {k : Bool} {f : List ℕ} → Begun m n k f → (ls : List (List ℕ)) (g : List ℕ) → Cut m ls g → Ready k ls → SomeCut (n + length ls) (f ++ lead k g)
  unfolding choose
  cut_on faults.none ls g c r = record { of = ls; cut = c; count = omega arith }
  cut_on (faults.last {n = n} {k = k} {f = f} {e = e} p b ok ne end) ls g c r =
      let one_more : n + 1 + length ls ≡ n + length (p ∷ ls) = omega arith in
      rw (between k f p e g, one_more) (cut_on b (p ∷ ls) (p ++ (e ++ g)) (cut.last p ok ne end c) (ready_cons k p ls))
  cut_on (faults.more {k = k} {f = f} {e = e} p b ok end) [] g c r = absurd r
  cut_on (faults.more {k = k} {f = f} {e = e} p b ok end) (l ∷ ls) g c r =
      rw (between k f p (m ∷ e) (cont ++ g)) (cut_on b ((p ++ l) ∷ ls) (p ++ (m ∷ e ++ (cont ++ g))) (cut.more p ok end c) (ready_cons k (p ++ l) ls))

  pub begun_cut : {n : ℕ} {f : List ℕ} → Begun m n false f → SomeCut n f
  unfolding choose
  begun_cut {n} {f} b = rw (append-nil f, add-zero n) at (cut_on b [] [] cut.done tt)

-- a line as it stands passes the test for CONT
cont_there : (k : Bool) (p : List ℕ) → (k && not (prefix cont (lead k p))) ≡ false
unfolding choose prefix
cont_there true p = refl
cont_there false p = refl

module _ (m : ℕ) (good : Mark m) where
  -- ## The first fault is the one of unfolding

  -- what begins a cut is passed: a fault behind it is the file's
  passes : {n : ℕ} {k : Bool} {f : List ℕ} → Begun m n k f → (r : List ℕ) → none (physical r) ≡ false → (a b : ℕ) → unfold_lines m (n + 1) k (physical r) ≡ fault a b → unfold_file m (f ++ r) ≡ fault a b
  unfolding unfold_file put none
  passes faults.none r h a b u = u
  passes (faults.last {n = n} {k = k} {f = f} {e = e} p g ok ne end) r h a b u =
      let there = phys_lead m good k p r ok end in
      rw (between k f p e r)
      (passes g (lead k (p ++ (e ++ r))) (rw there) a b (rw there (step_last m good (n + 1) k p (physical r) ne ok ∙ rw u)))
  passes (faults.more {n = n} {k = k} {f = f} {e = e} p g ok end) r h a b u =
      let there = phys_lead m good k (p ++ m ∷ []) r (permitted_snoc m p ok (mark_permitted m good)) end in
      rw (← marked_part k m p e, between k f (p ++ m ∷ []) e r)
      (passes g (lead k ((p ++ m ∷ []) ++ (e ++ r))) (rw there) a b (rw there (step_more m good (n + 1) k p (physical r) h ok ∙ rw u)))

  -- a line that is not the last, or does not end in the mark
  not_last : (x others : List ℕ) → (others ≡ [] → ends m x ≡ false) → (ends m x && none (physical others)) ≡ false
  not_last x [] h = rw (h refl)
  not_last x (b ∷ others) h = rw (some_left b others) (and-false (ends m x))

  pub first_fault : {f : List ℕ} {a b : ℕ} → FirstFault m f a b → unfold_file m f ≡ fault a b
  unfolding unfold_lines refuse none
  first_fault (faults.unended f [] g w some) = absurd (omega arith)
  first_fault (faults.unended {n = n} f (c ∷ x) g w some) = let there = phys_tail (c ∷ x) w in passes g (c ∷ x) (rw there) 3 (n + 1) (rw there)
  first_fault (faults.marked {n = n} {x = x} {b = b} f g e h) =
      let there = rw (append-nil b) at (phys_ended e []) in
      passes g b (rw there) 3 (n + 1) (rw there (rw (h, phys_nil)))
  first_fault (faults.uncontinued {n = n} {x = x} {b = b} f others g e some h) =
      let there = phys_ended e others in
      passes g (b ++ others) (rw there) 5 (n + 1) (rw there (rw (not_last x others some, h)))
  first_fault (faults.unpermitted {n = n} {k = k} {b = b} f p others g e some h) =
      let there = phys_ended e others in
      passes g (b ++ others) (rw there) 4 (n + 1) (rw there (rw (not_last (lead k p) others some, cont_there k p, permitted_lead k p, h)))

  -- ## And the other way round

  -- what follows has its fault found behind whatever begins a cut
  abbrev Found : Physical → List ℕ → (a b : ℕ) → Type 0
  Found p r a b = (n : ℕ) (k : Bool) (f : List ℕ) → Begun m n k f → (k && none p) ≡ false → unfold_lines m (n + 1) k p ≡ fault a b → FirstFault m (f ++ r) a b

  -- a line that is passed begins a cut with what stands before it, and the fault is behind it
  goes_on : {n : ℕ} {k : Bool} {f : List ℕ} (t : Bool) (q : List ℕ) {e r : List ℕ} (p : Physical) (a b : ℕ) → Begun m n k f → End e → all_permitted q ≡ true → ends m q ≡ t → (t && none p) ≡ false → Found p r a b
      → unfold_lines m (next t (n + 1)) t p ≡ fault a b → FirstFault m (f ++ ((lead k q ++ e) ++ r)) a b
  unfolding next
  goes_on {n} {k} {f} false q {e} {r} p a b g end ok ne h all u = rw (← append_assoc f (lead k q ++ e) r) (all (n + 1) false (f ++ (lead k q ++ e)) (faults.last q g ok ne end) refl u)
  goes_on {n} {k} {f} true q {e} {r} p a b g end ok ne h all u =
      let split : q ≡ without_last q ++ m ∷ [] = init_split m q ne in
      let fine = (every_parts permitted (without_last q) (m ∷ []) (rw (← split) ok)).0 in
      let is : lead k q ++ e ≡ lead k (without_last q) ++ (m ∷ e) = ap (λ (x : List ℕ). lead k x ++ e) split ∙ marked_part k m (without_last q) e in
      rw (is, ← append_assoc f (lead k (without_last q) ++ (m ∷ e)) r) (all n true (f ++ (lead k (without_last q) ++ (m ∷ e))) (faults.more (without_last q) g fine end) h u)

  found : {p : Physical} {r : List ℕ} → Lined p r → (a b : ℕ) → Found p r a b
  unfolding unfold_lines none
  found (l_tail {l = []} w) a b n true f g h u = absurd (true≢false h)
  found (l_tail {l = []} w) a b n false f g h u = absurd (fault_lines a b [] (sym u))
  found (l_tail {l = c ∷ l} w) a b n k f g h u = same_fault u (faults.unended f (c ∷ l) g w (omega arith))
  found (l_line {x = x} {b = d} {f = r} {p = p} e s) a b n k f g h u =
      refused_or (ends m x && none p) _ _ _ at_3 (λ t3. refused_or (k && not (prefix cont x)) _ _ _ (at_5 t3) (λ t5. refused_or (not (all_permitted x)) _ _ _ (at_4 t3 t5) (on (λ n k f g h u. found s a b n k f g h u) t3 t5))) u
    where
      -- the last line does not end in the mark
      unmarked : (ends m x && none p) ≡ false → r ≡ [] → ends m x ≡ false
      unmarked t3 z = sym (and-true (ends m x)) ∙ ap (λ (t : Bool). ends m x && t) (sym (empty_none s z)) ∙ t3

      at_3 : (ends m x && none p) ≡ true → fault 3 (n + 1) ≡ fault a b → FirstFault m (f ++ (d ++ r)) a b
      at_3 t v = let z = both (ends m x) (none p) t in rw (none_empty s z.1, append-nil d) (same_fault v (faults.marked f g e z.0))

      at_5 : (ends m x && none p) ≡ false → (k && not (prefix cont x)) ≡ true → fault 5 (n + 1) ≡ fault a b → FirstFault m (f ++ (d ++ r)) a b
      at_5 t3 t v = let z = both k (not (prefix cont x)) t in same_fault v (faults.uncontinued f r (rw z.0 at g) e (unmarked t3) (not-true _ z.1))

      at_4 : (ends m x && none p) ≡ false → (k && not (prefix cont x)) ≡ false → not (all_permitted x) ≡ true → fault 4 (n + 1) ≡ fault a b → FirstFault m (f ++ (d ++ r)) a b
      at_4 t3 t5 t v =
          let split : x ≡ lead k (drop_if k 5 x) = lead_split k x t5 in
          same_fault v (faults.unpermitted f (drop_if k 5 x) r g (subst (λ (y : List ℕ). Ended y d) split e) (λ z. ap (ends m) (sym split) ∙ unmarked t3 z) (sym (permitted_lead k (drop_if k 5 x)) ∙ ap all_permitted (sym split) ∙ not-true _ t))

      on : Found p r a b → (ends m x && none p) ≡ false → (k && not (prefix cont x)) ≡ false → not (all_permitted x) ≡ false
          → put (ends m x) (without_last_if (ends m x) (drop_if k 5 x)) (unfold_lines m (next (ends m x) (n + 1)) (ends m x) p) ≡ fault a b → FirstFault m (f ++ (d ++ r)) a b
      on all t3 t5 t4 v =
          let split : x ≡ lead k (drop_if k 5 x) = lead_split k x t5 in
          let l = end_of e in
          let is : d ≡ lead k (drop_if k 5 x) ++ l.bytes = l.is ∙ ap (λ (y : List ℕ). y ++ l.bytes) split in
          rw is
          (goes_on (ends m x) (drop_if k 5 x) p a b g l.end (sym (permitted_lead k (drop_if k 5 x)) ∙ ap all_permitted (sym split) ∙ not-false _ t4) (sym (ends_lead m good k (drop_if k 5 x)) ∙ ap (ends m) (sym split)) t3
          all (put_fault _ _ _ a b v))

  pub fault_first : (f : List ℕ) (a b : ℕ) → unfold_file m f ≡ fault a b → FirstFault m f a b
  unfolding unfold_file
  fault_first f a b u = found (lined f) a b 0 false [] faults.none refl u
