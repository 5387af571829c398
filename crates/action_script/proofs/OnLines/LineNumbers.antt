-- Forms on lines of their own.
use Rattle.std.proofs.Common.{◌≡◌, ℕ, ◌+◌, List, [], ◌∷◌, ◌++◌, length, refl, ap, arith}
use Rattle.action_script.specs.declared.forms.form.Form.{Form}
use Rattle.action_script.specs.Forms.Printing.{forms_of, numbered_from}

pub forms_of-numbered_from : (number : ℕ) (forms : List Form) → forms_of (numbered_from number forms) ≡ forms
forms_of-numbered_from number [] = refl
forms_of-numbered_from number (form ∷ forms) = ap (λ l. form ∷ l) (forms_of-numbered_from (number + 1) forms)

pub length-numbered_from : (number : ℕ) (forms : List Form) → length (numbered_from number forms) ≡ length forms
length-numbered_from number [] = refl
length-numbered_from number (form ∷ forms) = omega (arith, length-numbered_from (number + 1) forms)

-- one form more
pub numbered_from-push : (number : ℕ) (forms : List Form) (form : Form) (last : ℕ) → last ≡ number + length forms
    → numbered_from number (forms ++ form ∷ []) ≡ numbered_from number forms ++ record { number = last; form = form } ∷ []
numbered_from-push number [] form last h = let same : number ≡ last = omega arith in ap (λ n. record { number = n; form = form } ∷ []) same
numbered_from-push number (first ∷ forms) form last h =
    ap (λ l. record { number = number; form = first } ∷ l) (numbered_from-push (number + 1) forms form last (omega arith))
