-- Laws of results.
use Rattle.std.specs.Prelude.{◌≡◌, Some, Result, Ok, Err, IfErr, IfOk}
use Rattle.std.specs.Result.{result_ok}

-- what is said of an error
pub on_err : {T E : Type 0} (r : Result T E) (P Q : E → Type 0) → ((e : E) → P e → Q e) → IfErr r P → IfErr r Q
on_err (Ok x) P Q goes p = tt
on_err (Err e) P Q goes p = goes e p

pub on_ok : {T E : Type 0} (r : Result T E) (P Q : T → Type 0) → ((x : T) → P x → Q x) → IfOk r P → IfOk r Q
on_ok (Ok x) P Q goes p = goes x p
on_ok (Err e) P Q goes p = tt

-- a result that has a value is that value's
pub is_ok_of : {T E : Type 0} (r : Result T E) (x : T) → result_ok r ≡ Some x → r ≡ Ok x
is_ok_of (Ok y) x is = cc
is_ok_of (Err e) x is = absurd (cc)
