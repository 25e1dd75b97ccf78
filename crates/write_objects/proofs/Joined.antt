-- Fields, lines and pairs one behind the other. Assumes nothing.
use Prim.Native.Nat.{ℕ, suc, ◌+◌, ◌*◌}
use native.Mathlib.Omega.{arith}
use mathlib.Core.Path.{◌≡◌, refl, sym, ap, ◌∙◌}
use mathlib.Core.List.{List, [], ◌∷◌, ◌++◌, append_assoc}
use lib.IntN.{ℤ}
use lib.ListN.{length, drop}
use lib.Seq.{drop-drop}
use Rattle.meaning.specs.Row.{Pair, OfAttribute, OfComponent, OfLine}
use Rattle.meaning.specs.Reading.{Content, LineAttribute, line_attributes}
use Rattle.meaning.specs.Writing.{pair_fields, attribute_lines, spaced, line_bytes, lines_bytes}
use Rattle.meaning.specs.Width.{cut_line, cut_lines}

pub spaced_append : (xs ys : List (List ℕ)) → spaced (xs ++ ys) ≡ spaced xs ++ spaced ys
unfolding spaced
spaced_append [] ys = refl
spaced_append (x ∷ xs) ys = ap (λ (t : List ℕ). 0x20 ∷ t) (ap (λ (t : List ℕ). x ++ t) (spaced_append xs ys) ∙ sym (append_assoc x (spaced xs) (spaced ys)))

pub lines_append : (xs ys : List (List (List ℕ))) → lines_bytes (xs ++ ys) ≡ lines_bytes xs ++ lines_bytes ys
unfolding lines_bytes
lines_append [] ys = refl
lines_append (x ∷ xs) ys = ap (λ (t : List (List ℕ)). line_bytes x ∷ t) (lines_append xs ys)

pub cut_append : (mark width : ℕ) (xs ys : List (List ℕ)) → cut_lines mark width (xs ++ ys) ≡ cut_lines mark width xs ++ cut_lines mark width ys
unfolding cut_lines
cut_append mark width [] ys = refl
cut_append mark width (x ∷ xs) ys = ap (λ (t : List ℕ). cut_line mark width x ++ t) (cut_append mark width xs ys) ∙ sym (append_assoc (cut_line mark width x) (cut_lines mark width xs) (cut_lines mark width ys))

-- lines of fields, cut
pub cut_lines_append : (mark width : ℕ) (xs ys : List (List (List ℕ))) → cut_lines mark width (lines_bytes (xs ++ ys)) ≡ cut_lines mark width (lines_bytes xs) ++ cut_lines mark width (lines_bytes ys)
cut_lines_append mark width xs ys = ap (cut_lines mark width) (lines_append xs ys) ∙ cut_append mark width (lines_bytes xs) (lines_bytes ys)

-- the cells behind one more pair
further : (n : ℕ) (cs : List ℤ) → drop (2 * n) (drop 2 cs) ≡ drop (2 * suc n) cs
further n cs = drop-drop (2 * n) 2 cs ∙ ap (λ (k : ℕ). drop k cs) (let e : 2 + 2 * n ≡ 2 * suc n = omega arith in e)

pub fields_append : (u : ℕ) (text : List ℕ) (c : Content) (ps qs : List Pair) (cs : List ℤ)
    → pair_fields u text c (ps ++ qs) cs ≡ pair_fields u text c ps cs ++ pair_fields u text c qs (drop (2 * length ps) cs)
unfolding pair_fields
fields_append u text c [] qs cs = refl
fields_append u text c (OfAttribute o type ∷ ps) qs cs = rw (fields_append u text c ps qs (drop 2 cs), further (length ps) cs)
fields_append u text c (OfComponent k ∷ ps) qs cs = rw (fields_append u text c ps qs (drop 2 cs), further (length ps) cs)
fields_append u text c (OfLine o forms ks ∷ ps) qs cs = rw (fields_append u text c ps qs (drop 2 cs), further (length ps) cs)

pub attributes_append : (cell : ℕ) (ps qs : List Pair) → line_attributes cell (ps ++ qs) ≡ line_attributes cell ps ++ line_attributes (cell + 2 * length ps) qs
unfolding line_attributes
attributes_append cell [] qs = let e : cell + 2 * 0 ≡ cell = omega arith in rw e
attributes_append cell (OfAttribute o type ∷ ps) qs = let e : cell + 2 + 2 * length ps ≡ cell + 2 * suc (length ps) = omega arith in rw (attributes_append (cell + 2) ps qs, e)
attributes_append cell (OfComponent k ∷ ps) qs = let e : cell + 2 + 2 * length ps ≡ cell + 2 * suc (length ps) = omega arith in rw (attributes_append (cell + 2) ps qs, e)
attributes_append cell (OfLine o forms ks ∷ ps) qs = let e : cell + 2 + 2 * length ps ≡ cell + 2 * suc (length ps) = omega arith in rw (attributes_append (cell + 2) ps qs, e)

pub attribute_lines_append : (c : Content) (xs ys : List LineAttribute) → attribute_lines c (xs ++ ys) ≡ attribute_lines c xs ++ attribute_lines c ys
unfolding attribute_lines
attribute_lines_append c [] ys = refl
attribute_lines_append c (x ∷ xs) ys = rw (attribute_lines_append c xs ys, append_assoc)
