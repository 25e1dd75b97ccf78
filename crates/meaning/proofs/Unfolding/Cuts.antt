-- Unfolding and cuts: `cut_unfolds`, a cut of permitted lines is unfolded to them; `unfolds_cut`, what is unfolded to lines is a cut of them.
-- Assumes nothing.
use Prim.Native.Nat.{ℕ, ◌+◌, ◌≤◌}
use native.Mathlib.Omega.{arith}
use mathlib.Core.Path.{◌≡◌, refl, sym, ap, ap₂, ◌∙◌}
use mathlib.Core.Bool.{Bool, true, false, not, ◌&&◌, false≢true, or-true}
use mathlib.Core.List.{List, [], ◌∷◌, ◌++◌, append_assoc}
use lib.ListN.{length, drop, length-append}
use lib.Dec.{eqb}
use borrow.Author.Tests.{ne_eqb, le-leb, eqb-true, not-false}
use Rattle.meaning.specs.Bytes.{choose, refuse, permitted, every, all_permitted, ends, without_last, prefix, cont}
use Rattle.meaning.specs.Unfold.{physical, lines, Physical, line, tail, none, fault, Unfolded, put, drop_if, without_last_if, next, unfold_lines, unfold_file, unfolded_text}
use Rattle.meaning.specs.Cut.{End, lf, crlf, last, more, Cut, done, Mark, Permitted}
use Rattle.meaning.specs.Faults as faults
use Rattle.meaning.specs.Faults.{lead, Ended}
use Rattle.meaning.proofs.Tests.Refuse.{passed}
use Rattle.meaning.proofs.Values.Digits.{every_append, every_parts, every_kind}
use Rattle.meaning.proofs.Unfolding.Physical.{ends_snoc, init_snoc, init_split, phys_nil, phys_ended, Lined, l_tail, l_line, lined, some_left}
pub use Rattle.meaning.proofs.Tests.Refuse.{both}

-- ## A cut's length

end_long : {e : List ℕ} → End e → 1 ≤ length e
end_long lf = omega arith
end_long crlf = omega arith

-- a cut has at least as many bytes as the unfolded text of its lines
pub cut_long : {mark : ℕ} {ls : List (List ℕ)} {f : List ℕ} → Cut mark ls f → length (unfolded_text ls) ≤ length f
unfolding unfolded_text
cut_long done = omega arith
cut_long (last p {e = e} {f = f} {ls = ls} ok ne end c) = simp length-append (omega (arith, end_long end, cut_long c))
cut_long (more p {e = e} {l = l} {f = f} {ls = ls} ok end c) =
    let longer = cut_long c in
    let split : length (l ++ (0x0a ∷ unfolded_text ls)) ≡ length l + (1 + length (unfolded_text ls)) = length-append l (0x0a ∷ unfolded_text ls) ∙ omega arith in
    simp length-append (omega arith)

-- ## A cut's physical lines

pub not_lf : (b : ℕ) → permitted b ≡ true → eqb b 0x0a ≡ false
unfolding permitted
not_lf b h = ne_eqb b 0x0a (λ e. false≢true (rw e at h))

not_cr : (b : ℕ) → permitted b ≡ true → eqb b 0x0d ≡ false
unfolding permitted
not_cr b h = ne_eqb b 0x0d (λ e. false≢true (rw e at h))

-- permitted bytes have no LF, and no CR at their end
last_no_cr : (p : List ℕ) → all_permitted p ≡ true → ends 0x0d p ≡ false
unfolding every ends
last_no_cr [] h = refl
last_no_cr (b ∷ []) h = not_cr b (both _ _ h).0
last_no_cr (b ∷ (c ∷ p)) h = last_no_cr (c ∷ p) (both (permitted b) _ h).1

ended : (p : List ℕ) {e : List ℕ} → all_permitted p ≡ true → End e → Ended p (p ++ e)
ended p h lf = faults.lf (every_kind permitted _ (λ b k. rw (not_lf b k)) p h) (last_no_cr p h)
ended p h crlf = faults.crlf (every_kind permitted _ (λ b k. rw (not_lf b k)) p h)

pub phys_line : (p : List ℕ) {e : List ℕ} (f : List ℕ) → all_permitted p ≡ true → End e → physical (p ++ (e ++ f)) ≡ line p (physical f)
phys_line p {e} f h end = rw (← append_assoc p e f) (phys_ended (ended p h end) f)

-- ## What is unfolded

-- a line that is continued has a rest
abbrev pub Ready : Bool → List (List ℕ) → Type 0
Ready true [] = ⊥
Ready true (l ∷ ls) = Unit {0}
Ready false ls = Unit {0}

pub ready_cons : (o : Bool) (l : List ℕ) (ls : List (List ℕ)) → Ready o (l ∷ ls)
ready_cons true l ls = tt
ready_cons false l ls = tt

-- a line as it stands is as permitted as its part, and goes on as that does
pub permitted_lead : (o : Bool) (q : List ℕ) → all_permitted (lead o q) ≡ all_permitted q
unfolding every permitted choose
permitted_lead true q = refl
permitted_lead false q = refl

pub lead_append : (o : Bool) (q x : List ℕ) → lead o q ++ x ≡ lead o (q ++ x)
unfolding choose
lead_append true q x = refl
lead_append false q x = refl

pub permitted_snoc : (m : ℕ) (p : List ℕ) → all_permitted p ≡ true → permitted m ≡ true → all_permitted (p ++ m ∷ []) ≡ true
unfolding every
permitted_snoc m p h k = every_append permitted p (m ∷ []) h (rw k)

module _ (m : ℕ) (good : Mark m) where
  pub mark_permitted : permitted m ≡ true
  unfolding permitted
  mark_permitted = rw (le-leb 0x20 m (omega (arith, good.low)), le-leb m 0x7e good.high) (or-true (eqb m 0x09))

  space_no_mark : eqb 0x20 m ≡ false
  space_no_mark = ne_eqb 0x20 m (λ e. omega (arith, good.low))

  -- CONT and a space end in no mark
  pub ends_lead : (o : Bool) (p : List ℕ) → ends m (lead o p) ≡ ends m p
  unfolding ends choose
  ends_lead false p = refl
  ends_lead true [] = space_no_mark
  ends_lead true (b ∷ p) = refl

  -- a line's last part
  pub step_last : (n : ℕ) (o : Bool) (p : List ℕ) (f : Physical) → ends m p ≡ false → all_permitted p ≡ true
      → unfold_lines m n o (line (lead o p) f) ≡ put false p (unfold_lines m (n + 1) false f)
  unfolding unfold_lines refuse drop_if without_last_if next prefix every permitted choose
  step_last n true p f e h = simp (ends_lead true p, e, h)
  step_last n false p f e h = rw (e, h)

  -- a part that is continued
  pub step_more : (n : ℕ) (o : Bool) (p : List ℕ) (f : Physical) → none f ≡ false → all_permitted p ≡ true
      → unfold_lines m n o (line (lead o (p ++ m ∷ [])) f) ≡ put true p (unfold_lines m n true f)
  unfolding unfold_lines refuse drop_if without_last_if next prefix every permitted choose
  step_more n true p f e h = simp (ends_snoc m (cont ++ p), e, permitted_snoc m p h mark_permitted, init_snoc)
  step_more n false p f e h = simp (ends_snoc m p, e, permitted_snoc m p h mark_permitted, init_snoc)

  pub phys_lead : (o : Bool) (p : List ℕ) {e : List ℕ} (f : List ℕ) → all_permitted p ≡ true → End e → physical (lead o (p ++ (e ++ f))) ≡ line (lead o p) (physical f)
  unfolding every permitted choose
  phys_lead true p f h e = phys_line (cont ++ p) f h e
  phys_lead false p f h e = phys_line p f h e

  unfolds : {ls : List (List ℕ)} {f : List ℕ} → Cut m ls f → (n : ℕ) (o : Bool) → Ready o ls → unfold_lines m n o (physical (lead o f)) ≡ lines ls
  unfolding unfold_lines put choose
  unfolds done n true r = absurd r
  unfolds done n false r = rw phys_nil
  unfolds (last p {f = f} {ls = ls} ok ne e c) n o r =
      rw (phys_lead o p f ok e) (step_last n o p (physical f) ne ok ∙ rw (unfolds c (n + 1) false tt))
  unfolds (more p {e = e} {l = l} {f = f} {ls = ls} ok end c) n o r =
      rw (← (append_assoc p (m ∷ []) (e ++ (cont ++ f))), phys_lead o (p ++ m ∷ []) (cont ++ f) (permitted_snoc m p ok mark_permitted) end)
      (step_more n o p (physical (cont ++ f)) (some_left _ _) ok ∙ rw (unfolds c n true tt))

  -- a cut is unfolded to its lines
  pub cut_unfolds : {ls : List (List ℕ)} {f : List ℕ} → Cut m ls f → unfold_file m f ≡ lines ls
  unfolding unfold_file choose
  cut_unfolds c = unfolds c 1 false tt

-- ## Back: a file's bytes from its physical lines

pub data Spelled : Physical → List ℕ → Type 0 where
  s_tail : {l : List ℕ} → Spelled (tail l) l
  s_line : (l : List ℕ) {e f : List ℕ} {p : Physical} → End e → Spelled p f → Spelled (line l p) (l ++ (e ++ f))

s_lined : {p : Physical} {f : List ℕ} → Lined p f → Spelled p f
s_lined (l_tail w) = s_tail
s_lined (l_line {f = f} (faults.lf {x = x} w n) r) = rw (append_assoc x (0x0a ∷ []) f) (s_line x lf (s_lined r))
s_lined (l_line {f = f} (faults.crlf {x = x} w) r) = rw (append_assoc x (0x0d ∷ 0x0a ∷ []) f) (s_line x crlf (s_lined r))

pub spelled : (f : List ℕ) → Spelled (physical f) f
spelled f = s_lined (lined f)

pub fault_lines : (k n : ℕ) (ls : List (List ℕ)) → fault k n ≡ lines ls → ⊥
fault_lines k n ls h = let z : ◌≡◌ {A = ℕ} 0 1 = cc in omega arith

prefix_split : (k l : List ℕ) → prefix k l ≡ true → l ≡ k ++ drop (length k) l
unfolding prefix
prefix_split [] l h = refl
prefix_split (a ∷ k) [] h = absurd (false≢true h)
prefix_split (a ∷ k) (b ∷ l) h =
    let r : (eqb b a ≡ true) × (prefix k l ≡ true) = both _ _ h in
    ap₂ (λ (x : ℕ) (y : List ℕ). x ∷ y) (eqb-true b a r.0) (prefix_split k l r.1)

-- a line that passed the test for CONT stands behind it
pub lead_split : (o : Bool) (l : List ℕ) → (o && not (prefix cont l)) ≡ false → l ≡ lead o (drop_if o 5 l)
unfolding drop_if choose
lead_split true l h = prefix_split cont l (not-false _ h)
lead_split false l h = refl

-- what was put
put_last : (p : List ℕ) (u : Unfolded) (ls : List (List ℕ)) → put false p u ≡ lines ls → (r : List (List ℕ)) × (u ≡ lines r) × (ls ≡ p ∷ r)
unfolding put
put_last p (lines r) ls h = (r, refl, cc)
put_last p (fault k n) ls h = absurd (fault_lines k n ls h)

put_more : (p : List ℕ) (u : Unfolded) (ls : List (List ℕ)) → put true p u ≡ lines ls → (r : List (List ℕ)) × (u ≡ lines r) × (put true p (lines r) ≡ lines ls)
unfolding put
put_more p (lines r) ls h = (r, refl, h)
put_more p (fault k n) ls h = absurd (fault_lines k n ls h)

module _ (m : ℕ) (good : Mark m) where
  -- the file of a cut of ls, as it stands
  pub record Back (o : Bool) (ls : List (List ℕ)) (f : List ℕ) : Type 0 where
    pub file : List ℕ
    pub stands : f ≡ lead o file
    pub cut : Cut m ls file
    pub fine : Permitted ls
    pub ready : Ready o ls

  -- a continued part of a line, where the rest of the file is shown
  back_more : (o : Bool) (q : List ℕ) {e f : List ℕ} (r ls : List (List ℕ)) → End e → ends m q ≡ true → all_permitted q ≡ true
      → put true (without_last q) (lines r) ≡ lines ls → Back true r f → Back o ls (lead o q ++ (e ++ f))
  unfolding put choose
  back_more o q [] ls end en ok h b = absurd b.ready
  back_more o q {e} {f} (l ∷ r) ls end en ok h b =
      let same : ls ≡ (without_last q ++ l) ∷ r = cc in
      let split : q ≡ without_last q ++ m ∷ [] = init_split m q en in
      rw same
      record {
        file = without_last q ++ (m ∷ e ++ (cont ++ b.file));
        stands = lead_append o q (e ++ f) ∙ ap (lead o) (ap₂ (λ (x y : List ℕ). x ++ (e ++ y)) split b.stands ∙ append_assoc (without_last q) (m ∷ []) (e ++ (cont ++ b.file)));
        cut = more (without_last q) (every_parts permitted (without_last q) (m ∷ []) (rw (← split) ok)).0 end b.cut;
        fine = (every_append permitted (without_last q) l (every_parts permitted (without_last q) (m ∷ []) (rw (← split) ok)).0 b.fine.0, b.fine.1);
        ready = ready_cons o _ _;
      }

  -- a physical line q behind CONT or not, where the rest of the file is shown
  back_line : (n : ℕ) (o t : Bool) (q : List ℕ) {e f : List ℕ} (p : Physical) (ls : List (List ℕ)) → End e
      → ((n : ℕ) (o : Bool) (ls : List (List ℕ)) → unfold_lines m n o p ≡ lines ls → Back o ls f)
      → ends m q ≡ t → all_permitted q ≡ true
      → put t (without_last_if t q) (unfold_lines m (next t n) t p) ≡ lines ls → Back o ls (lead o q ++ (e ++ f))
  unfolding without_last_if next choose
  back_line n o true q p ls end all en ok h =
      let r = put_more (without_last q) _ ls h in
      back_more o q r.0 ls end en ok r.2 (all n true r.0 r.1)
  back_line n o false q {e} {f} p ls end all en ok h =
      let r = put_last q _ ls h in
      let b : Back false r.0 f = all (n + 1) false r.0 r.1 in
      rw r.2
      record {
        file = q ++ (e ++ b.file);
        stands = lead_append o q (e ++ f) ∙ ap (λ (x : List ℕ). lead o (q ++ (e ++ x))) b.stands;
        cut = last q ok en end b.cut;
        fine = (ok, b.fine);
        ready = ready_cons o _ _;
      }

  back : {p : Physical} {f : List ℕ} → Spelled p f → (n : ℕ) (o : Bool) (ls : List (List ℕ)) → unfold_lines m n o p ≡ lines ls → Back o ls f
  unfolding unfold_lines none choose
  back (s_tail {l = []}) n true ls h = absurd (fault_lines 3 n ls h)
  back (s_tail {l = []}) n false ls h = let same : ls ≡ [] = cc in rw same (record { file = []; stands = refl; cut = done; fine = tt; ready = tt })
  back (s_tail {l = b ∷ l}) n o ls h = absurd (fault_lines 3 n ls h)
  back (s_line l {e = e} {f = f} {p = p} end s) n o ls h =
      let r3 = passed _ _ _ _ (fault_lines 3 n ls) h in
      let r5 = passed _ _ _ _ (fault_lines 5 n ls) r3.1 in
      let r4 = passed _ _ _ _ (fault_lines 4 n ls) r5.1 in
      let split : l ≡ lead o (drop_if o 5 l) = lead_split o l r5.0 in
      rw split
      (back_line n o (ends m l) (drop_if o 5 l) p ls end (λ n o ls h. back s n o ls h) (sym (ends_lead m good o (drop_if o 5 l)) ∙ ap (ends m) (sym split)) (sym (permitted_lead o (drop_if o 5 l)) ∙ rw (← split) (not-false _ r4.0)) r4.1)

  -- what is unfolded to lines is a cut of them, and their bytes are permitted
  pub unfolds_cut : (ls : List (List ℕ)) (f : List ℕ) → unfold_file m f ≡ lines ls → Cut m ls f × Permitted ls
  unfolding unfold_file choose
  unfolds_cut ls f h = let b = back (spelled f) 1 false ls h in (rw b.stands b.cut, b.fine)

  -- a file is a cut of one list of lines at most
  pub cut_unique : {ls ks : List (List ℕ)} {f : List ℕ} → Cut m ls f → Cut m ks f → ls ≡ ks
  cut_unique {ls} {ks} {f} c d =
      let p : unfold_file m f ≡ lines ls = cut_unfolds m good c in
      let q : unfold_file m f ≡ lines ks = cut_unfolds m good d in
      cc
