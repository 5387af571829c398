-- What an option is, told by an equation or a test.
use Rattle.std.proofs.Common.{◌≡◌, true, Some, None, Option, refl, is_none}
use Rattle.std.proofs.lemmas.Bool.{false≢true}

pub some_apart : {A : Type 0} {x : A} → None ≡ Some x → ⊥
some_apart h = cc

pub some_same : {A : Type 0} {x y : A} → Some x ≡ Some y → x ≡ y
some_same h = cc

pub none_is : {A : Type 0} (o : Option A) → is_none o ≡ true → o ≡ None
none_is None h = refl
none_is (Some x) h = absurd (false≢true h)
