-- A list of zeros, made one by one.
use Rattle.std.specs.Prelude.{ℕ, ◌+◌, ◌≤◌, ◌<◌, List, [], ◌∷◌, ◌++◌, ◌≡◌, length, take, set, replicate}
use Rattle.std.proofs.Common.{ap, sym, ◌∙◌, add-one, take-suc-set, take_all}
use Rattle.std.proofs.lemmas.List.{replicate-append-replicate}

pub zeros_more : (l : List ℕ) (i : ℕ) → i < length l → take i l ≡ replicate i 0 → take (i + 1) (set l i 0) ≡ replicate (i + 1) 0
zeros_more l i h e =
    ap (λ (k : ℕ). take k (set l i 0)) (add-one i)
    ∙ take-suc-set l i 0 h
    ∙ ap (λ (m : List ℕ). m ++ (0 ∷ [])) e
    ∙ replicate-append-replicate i 1 0

pub zeros_all : (l : List ℕ) (i n : ℕ) → length l ≤ i → i ≡ n → take i l ≡ replicate i 0 → l ≡ replicate n 0
zeros_all l i n h k e = sym (take_all i l h) ∙ e ∙ ap (λ (j : ℕ). replicate j 0) k
