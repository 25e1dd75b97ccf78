-- A list copied into a part of another. Assumes nothing.
use Rattle.std.proofs.Common.{◌≡◌, ℕ, ◌+◌, ◌≤◌, List, length, sym, ap, ◌∙◌, append_assoc, arith}
use Rattle.std.proofs.lemmas.List.{drop-drop}
use borrow.Rule.Slice.PartMut.{put_mid}
use Rattle.std.proofs.lemmas.List.Edits.{sets, sets-eq}

-- it is the same as its elements stored one after the other
pub written : {A : Type 0} (l : List A) (at k : ℕ) (new vs : List A) → new ≡ vs → k ≡ length new → at + k ≤ length l → put_mid at k l new ≡ sets l at vs
written l at k new vs e n room =
    let m : k ≡ length vs = n ∙ ap length e in
    rw (e, m) (simp drop-drop (sym (simp append_assoc at (sets-eq vs l at (omega arith)))))
