-- Many numbers of one width w put one after the other, number k at spot k.
-- Assumes nothing.
use Rattle.std.specs.Prelude.{ℕ, zero, suc, List}
use Rattle.words.specs.Word.{word, put}

-- b with the n numbers f 0, f 1, .. put
unfoldable pub wrote : ℕ → List ℕ → (ℕ → ℕ) → (ℕ → ℕ) → ℕ → List ℕ
wrote w b spot f zero = b
wrote w b spot f (suc n) = put w (wrote w b spot f n) (spot n) (f n)

-- b with n numbers moved, number k from source k and turned by g on the way
abbrev pub moved : ℕ → List ℕ → (ℕ → ℕ) → (ℕ → ℕ) → (ℕ → ℕ) → ℕ → List ℕ
moved w b source spot g n = wrote w b spot (λ k. g (word w b (source k))) n
