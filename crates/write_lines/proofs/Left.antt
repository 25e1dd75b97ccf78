-- Bytes put one part after the other: what is left, put behind what is put, is the whole. Assumes nothing.
use Prim.Native.Nat.{ℕ}
use native.Mathlib.Omega.{arith}
use mathlib.Core.Path.{◌≡◌, sym, ◌∙◌}
use mathlib.Core.List.{List, [], ◌++◌, append_assoc, append-nil}
use Rattle.write_lines.specs.declared.Put.{Put}
use Rattle.write_lines.specs.Puts.{Puts}
use Rattle.write_lines.proofs.Puts.{renamed, nothing, then}

-- of the whole, put behind p₀, the rest is left, to be put behind p
pub record Left (whole : List ℕ) (p₀ : Put) (out₀ rest : List ℕ) (p : Put) (out : List ℕ) : Type 0 where
  pub done : List ℕ
  pub joins : done ++ rest ≡ whole
  pub puts : Puts done p₀ out₀ out p

-- q, behind which nothing more is put, is p
pub left_start : (whole rest : List ℕ) (q p : Put) (out : List ℕ) → rest ≡ whole → Puts [] q out out p → Left whole p out rest p out
left_start whole rest q p out same h = record { done = []; joins = same; puts = nothing p out (omega (arith, h.count)) }

module _ {whole : List ℕ} {p₀ : Put} {out₀ rest : List ℕ} {p : Put} {out : List ℕ} (i : Left whole p₀ out₀ rest p out) where
  -- nothing is left
  pub left_end : (q : Put) → rest ≡ [] → Puts [] q out₀ out₀ p₀ → Puts whole q out₀ out p
  left_end q h none =
      renamed i.done whole q out₀ out p (sym (append-nil i.done) ∙ rw h at i.joins) (then [] i.done q p₀ p out₀ out₀ out none i.puts)

  -- a part is put
  pub left_on : (xs ys : List ℕ) → rest ≡ xs ++ ys → (e : List ℕ) (r : Put) → Puts xs p out e r → Left whole p₀ out₀ ys r e
  left_on xs ys h e r q = record {
    done = i.done ++ xs;
    joins = append_assoc i.done xs ys ∙ rw h at i.joins;
    puts = then i.done xs p₀ p r out₀ out e i.puts q;
  }
