-- Lemmas on what a source has left and what a sink holds, where they tell it.
use Rattle.std.proofs.Common.{◌≡◌, ℕ, ◌+◌, List, ◌++◌, Option, Some, None, Result, Ok, Err, IfErr, IsErrAnd, refl, ap, subst, append_assoc, sym, take, drop, ◌∙◌}
use Rattle.std.specs.Io.KnownBytes.{append_known, prepend_known}
use lib.Seq.{take-add}
use Rattle.caa_base.specs.Outside.Reading.{TookAtMost, TookUntil}
use Rattle.caa_base.specs.declared.outside.reading.ReadError.{ReadError}
use Rattle.caa_base.specs.declared.outside.reading.ReadError.TheVariants.{OutOfMemory}

-- two pieces appended, one after the other
pub append_known-append_known : (known : Option (List ℕ)) (xs ys : List ℕ)
    → append_known (append_known known xs) ys ≡ append_known known (xs ++ ys)
append_known-append_known None xs ys = refl
append_known-append_known (Some zs) xs ys = ap Some (append_assoc zs xs ys)

-- two pieces taken, one after the other
pub prepend_known-prepend_known : (known : Option (List ℕ)) (xs ys : List ℕ)
    → prepend_known xs (prepend_known ys known) ≡ prepend_known (xs ++ ys) known
prepend_known-prepend_known None xs ys = refl
prepend_known-prepend_known (Some zs) xs ys = ap Some (sym (append_assoc xs ys zs))

-- what was appended in two pieces
pub append_known-more : (old mid new : Option (List ℕ)) (xs ys all : List ℕ)
    → mid ≡ append_known old xs → new ≡ append_known mid ys → xs ++ ys ≡ all → new ≡ append_known old all
append_known-more old mid new xs ys all p q e =
    q ∙ ap (λ k. append_known k ys) p ∙ append_known-append_known old xs ys ∙ ap (append_known old) e

-- what was taken in two pieces
pub prepend_known-more : (old mid new : Option (List ℕ)) (xs ys : List ℕ)
    → old ≡ prepend_known xs mid → mid ≡ prepend_known ys new → old ≡ prepend_known (xs ++ ys) new
prepend_known-more old mid new xs ys p q = p ∙ ap (prepend_known xs) q ∙ prepend_known-prepend_known new xs ys

-- two fronts, one after the other, are the front of both lengths
pub front_more : (bytes rest : List ℕ) (m n : ℕ) → rest ≡ drop m bytes → take m bytes ++ take n rest ≡ take (m + n) bytes
front_more bytes rest m n e = ap (λ r. take m bytes ++ take n r) e ∙ sym (take-add m n bytes)

-- a reading that found no memory took no more than the limit
pub took_without_memory : {T : Type 0} (result : Result T ReadError) (old new : Option (List ℕ)) (limit : ℕ)
    → IsErrAnd result (λ error. error ≡ OutOfMemory) → TookAtMost old new limit → IfErr result (TookUntil old new limit)
took_without_memory (Ok v) old new limit is took = tt
took_without_memory (Err error) old new limit is took = subst (TookUntil old new limit) (sym is) took
