-- Names kept as numbers: the part of the model that one means, and a turn of the search through several.
-- Assumes nothing.
use Prim.Native.Nat.{ℕ, suc, ◌+◌, ◌-◌, ◌/◌, ◌%◌, ◌<◌, min}
use native.Mathlib.Omega.{arith}
use mathlib.Core.Path.{◌≡◌, refl, ap, ◌∙◌}
use mathlib.Core.Bool.{Bool, true, false, ◌||◌}
use mathlib.Core.List.{List, [], ◌∷◌, ◌++◌}
use lib.ListN.{length, take, drop, set, drop_of_length-le}
use lib.Dec.{leb}
use lib.Seq.{take-nil, take-suc-set, take-set-le}
use borrow.Author.Tests.{leb-true, leb-false}
use native.Mathlib.Numerals.{add-one}
use Rattle.meaning.specs.Bytes.{same}
use Rattle.meaning.specs.Check.{is_among}
use Rattle.model_check.specs.Names.{name_of, names_of}
use Rattle.meaning.proofs.Lists.{part}
use Rattle.std.specs.List.{list_any}

-- the part of the model from the lesser of start and length on
pub word_part : (b : List ℕ) (word start end : ℕ) → start ≡ min (word / 65536) (length b) → end ≡ start + min (word % 65536) (length b - start)
    → take (end - start) (drop start b) ≡ name_of b word
unfolding name_of
word_part b word start end e f = go (leb (word / 65536) (length b)) refl
  where
    k : ℕ
    k = word % 65536

    size : end - start ≡ min (word % 65536) (length b - start)
    size = omega arith

    go : (x : Bool) → leb (word / 65536) (length b) ≡ x → take (end - start) (drop start b) ≡ take (word % 65536) (drop (word / 65536) b)
    go true h =
        let l = leb-true (word / 65536) (length b) h in
        let m : start ≡ word / 65536 = omega arith in
        rw size (part (word % 65536) start (length b) b refl ∙ ap (λ (s : ℕ). take (word % 65536) (drop s b)) m)
    go false h =
        let l = leb-false (word / 65536) (length b) h in
        rw (drop_of_length-le b {i = start} (omega arith), drop_of_length-le b {i = word / 65536} (omega arith), take-nil (end - start), take-nil (word % 65536))

-- ## A search

pub among_any : (b name words : List ℕ) → list_any (λ word. same (name_of b word) name) words ≡ is_among name (names_of b words)
unfolding is_among names_of
among_any b name [] = refl
among_any b name (word ∷ words) = ap (λ (t : Bool). same (name_of b word) name || t) (among_any b name words)

-- ## Names that are added

-- one name more
pub names_snoc : (b words : List ℕ) (word : ℕ) → names_of b (words ++ (word ∷ [])) ≡ names_of b words ++ (name_of b word ∷ [])
unfolding names_of
names_snoc b [] word = refl
names_snoc b (w ∷ words) word = ap (λ (l : List (List ℕ)). name_of b w ∷ l) (names_snoc b words word)

pub names_length : (b words : List ℕ) → length (names_of b words) ≡ length words
unfolding names_of
names_length b [] = refl
names_length b (w ∷ words) = ap suc (names_length b words)

-- a store behind the names adds nothing to them
pub names_kept : (b words : List ℕ) (n word : ℕ) → names_of b (take n (set words n word)) ≡ names_of b (take n words)
names_kept b words n word = ap (names_of b) (take-set-le n words n word (omega arith))

-- and counts once the count is one more
pub names_more : (b words : List ℕ) (n word : ℕ) → n < length words → names_of b (take (n + 1) (set words n word)) ≡ names_of b (take n words) ++ (name_of b word ∷ [])
names_more b words n word h = rw (add-one n, take-suc-set words n word h) (names_snoc b (take n words) word)
