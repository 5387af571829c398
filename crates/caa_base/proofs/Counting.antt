-- What a count does that goes up by one, and stops at the last number that it can show.
use Rattle.std.proofs.Common.{◌≡◌, ℕ, ◌+◌, ◌-◌, ◌^◌, ◌<◌, ◌≤◌, Bool, true, false, cond, nat_lt, refl, arith}
use Rattle.std.proofs.lemmas.Bool.{ltb-false}
use Rattle.caa_base.specs.Outside.Counts.{counted_up, Rose}

-- a count after one more is one more, or it stood at its end
by_test : (b : Bool) (n after : ℕ) → nat_lt n (2 ^ 64 - 1) ≡ b → after ≡ cond b (n + 1) n → after < 2 ^ 64 - 1 → after ≡ n + 1
by_test true n after t h l = h
by_test false n after t h l = absurd (omega (arith, ltb-false n (2 ^ 64 - 1) t))

pub counted_up-exact : (before after : ℕ) → after ≡ counted_up before → after < 2 ^ 64 - 1 → after ≡ before + 1
counted_up-exact before after h l = by_test (nat_lt before (2 ^ 64 - 1)) before after refl h l

-- so it rose
pub counted_up-rose : (before after : ℕ) → after ≡ counted_up before → Rose before after
counted_up-rose before after h = λ l. omega (arith, counted_up-exact before after h l)

-- and did not fall
pub counted_up-grows : (before after : ℕ) → after ≡ counted_up before → before ≤ after
counted_up-grows before after h = grows (nat_lt before (2 ^ 64 - 1)) h
  where
    grows : (b : Bool) → after ≡ cond b (before + 1) before → before ≤ after
    grows true h = omega arith
    grows false h = omega arith
