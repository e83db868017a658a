-- What an answer says of what holds at Ok.
use Rattle.std.proofs.Common.{◌≡◌, true, false, Result, Ok, Err, OnOk, refl, sym}
use Rattle.std.specs.Result.{is_err, is_ok}
use Rattle.std.proofs.lemmas.Bool.{false≢true}

-- what is no error is Ok
pub ok-where : {X E : Type 0} (r : Result X E) → is_err r ≡ false → is_ok r ≡ true
ok-where (Ok x) none = refl
ok-where (Err e) none = absurd (false≢true (sym none))

pub err-where : {X E : Type 0} (r : Result X E) → is_err r ≡ true → is_ok r ≡ false
err-where (Ok x) none = absurd (false≢true none)
err-where (Err e) is = refl

-- what is so at Ok
pub ok-has : {X E : Type 0} {P : Type 0} (r : Result X E) → is_ok r ≡ true → OnOk r P → P
ok-has (Ok x) ok has = has
ok-has (Err e) ok has = absurd (false≢true ok)
