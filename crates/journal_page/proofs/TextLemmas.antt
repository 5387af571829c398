-- A text to which something is added, so many times.
use Rattle.std.proofs.Common.{◌≡◌, ◌∙◌, ℕ, List, ◌++◌, ap, refl, append_assoc}

-- twice
two_more : (t0 t1 t2 a1 a2 : List ℕ) → t1 ≡ t0 ++ a1 → t2 ≡ t1 ++ a2 → t2 ≡ t0 ++ (a1 ++ a2)
two_more t0 t1 t2 a1 a2 e1 e2 = e2 ∙ ap (λ t. t ++ a2) e1 ∙ append_assoc t0 a1 a2

-- three times
three_more : (t0 t1 t2 t3 a1 a2 a3 : List ℕ) → t1 ≡ t0 ++ a1 → t2 ≡ t1 ++ a2 → t3 ≡ t2 ++ a3 → t3 ≡ t0 ++ (a1 ++ a2 ++ a3)
three_more t0 t1 t2 t3 a1 a2 a3 e1 e2 e3 = two_more t0 t2 t3 (a1 ++ a2) a3 (two_more t0 t1 t2 a1 a2 e1 e2) e3

-- what stands between a front and a back
pub framed : (front t1 t2 whole head middle tail back : List ℕ) → t1 ≡ front ++ head → t2 ≡ t1 ++ middle
    → whole ≡ t2 ++ tail ++ back → whole ≡ front ++ (head ++ middle ++ tail) ++ back
framed front t1 t2 whole head middle tail back e1 e2 e3 =
    e3 ∙ ap (λ t. t ++ back) (three_more front t1 t2 (t2 ++ tail) head middle tail e1 e2 refl)
