-- Lists with one more at the end, of which those stay that pass a test.
use Rattle.std.proofs.Common.{◌≡◌, ◌∙◌, Bool, true, false, cond, List, [], ◌∷◌, ◌++◌, filter, refl, ap}
use Rattle.std.proofs.lemmas.List.Elements.{filter-append}
use Rattle.caa_base.specs.declared.written.entry.Entry.{Entry}

pub append_none : {A : Type 0} (xs : List A) → xs ++ [] ≡ xs
append_none [] = refl
append_none (x ∷ xs) = ap (λ l. x ∷ l) (append_none xs)

-- the last passes
pub filter_passed : (test : Entry → Bool) (es : List Entry) (e : Entry) → test e ≡ true → filter test (es ++ e ∷ []) ≡ filter test es ++ e ∷ []
filter_passed test es e h = filter-append test es (e ∷ []) ∙ ap (λ b. filter test es ++ cond b (e ∷ []) []) h

-- the last doesn't
pub filter_failed : (test : Entry → Bool) (es : List Entry) (e : Entry) → test e ≡ false → filter test (es ++ e ∷ []) ≡ filter test es
filter_failed test es e h = filter-append test es (e ∷ []) ∙ ap (λ b. filter test es ++ cond b (e ∷ []) []) h ∙ append_none (filter test es)
