-- Names that were seen, each kept as one number: 65536 times its start in the model, plus its length.
use Rattle.std.specs.Prelude.{ℕ, ◌/◌, ◌%◌, List, [], ◌∷◌, take, drop}

unfoldable pub name_of : List ℕ → ℕ → List ℕ
name_of model word = take (word % 65536) (drop (word / 65536) model)

unfoldable pub names_of : List ℕ → List ℕ → List (List ℕ)
names_of model [] = []
names_of model (word ∷ words) = name_of model word ∷ names_of model words
