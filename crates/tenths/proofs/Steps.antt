-- What a reading that went well says of its steps.
use Rattle.std.proofs.Common.{◌≡◌, Bool, true, false, cond, Result, Ok, Err, refl}
use Rattle.tenths.specs.Reading.{◌>>=◌}

pub bind_ok : {E A B : Type 0} (r : Result A E) (f : A → Result B E) (y : B) → (r >>= f) ≡ Ok y → (x : A) × (r ≡ Ok x) × (f x ≡ Ok y)
bind_ok (Ok x) f y e = (x, refl, e)
bind_ok (Err d) f y e = absurd cc

pub test_ok : {E A : Type 0} (b : Bool) (d : E) (x y : A) → cond b (Ok x) (Err d) ≡ Ok y → (b ≡ true) × (x ≡ y)
test_ok true d x y e = (refl, cc)
test_ok false d x y e = absurd cc

abbrev done : {E A : Type 0} → A → Result A E
done x = Ok x

pub ok_is : {E A : Type 0} (x y : A) → done {E = E} x ≡ done y → x ≡ y
ok_is x y e = cc
