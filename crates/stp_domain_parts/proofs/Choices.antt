-- What was found first, of two.
use Rattle.std.proofs.Common.{◌≡◌, Bool, true, false, ◌||◌, if◌then◌else◌, Option, Some, None, is_some, refl}

unfoldable pub otherwise : {A : Type 0} → Option A → Option A → Option A
otherwise None other = other
otherwise (Some x) other = Some x

pub otherwise_none : {A : Type 0} (o : Option A) → o ≡ otherwise o None
unfolding otherwise
otherwise_none None = refl
otherwise_none (Some x) = refl

pub none_otherwise : {A : Type 0} (o : Option A) → otherwise None o ≡ o
unfolding otherwise
none_otherwise o = refl

pub filled : {A : Type 0} (o : Option A) (x : A) → (if is_some o then o else Some x) ≡ otherwise o (Some x)
unfolding otherwise
filled None x = refl
filled (Some old) x = refl

pub unchanged : {A : Type 0} (b : Bool) (o : Option A) → (if b then o else o) ≡ otherwise o None
unchanged true o = otherwise_none o
unchanged false o = otherwise_none o

pub chain : {A : Type 0} (o : Option A) (b : Bool) (x : A) (rest : Option A) → otherwise (otherwise o (if b then Some x else None)) rest ≡ otherwise o (if b then Some x else rest)
unfolding otherwise
chain None true x rest = refl
chain None false x rest = refl
chain (Some old) b x rest = refl

pub some_of_two : {A : Type 0} (o : Option A) (b : Bool) (x : A) → is_some (otherwise o (if b then Some x else None)) ≡ (b || is_some o)
unfolding otherwise
some_of_two None true x = refl
some_of_two None false x = refl
some_of_two (Some old) true x = refl
some_of_two (Some old) false x = refl
