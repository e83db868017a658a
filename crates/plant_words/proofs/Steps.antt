-- What the steps of a reading were that led to an end without a fault.
use Rattle.std.proofs.Common.{◌≡◌, refl, sym, subst, ℕ, Bool, true, false, if◌then◌else◌, List, [], ◌∷◌, ◌++◌, Option, Some, None, Result, Ok, Err}
use Rattle.std.specs.Option.{ok_or}
use Rattle.plant_words.specs.Reading.{◌>>=◌, check}

-- a step before others had no fault
pub led_on : {A B F : Type 0} (r : Result A F) (next : A → Result B F) (y : B) → (r >>= next) ≡ Ok y → (x : A) × (r ≡ Ok x) × (next x ≡ Ok y)
led_on (Ok x) next y told = (x, refl, told)
led_on (Err fault) next y told = absurd (cc)

-- a test that was passed
pub passed : {F : Type 0} (passes : Bool) (fault : F) (u : Unit {0}) → check passes fault ≡ Ok u → passes ≡ true
passed true fault u told = refl
passed false fault u told = absurd (cc)

-- a value that was there
pub was_there : {A F : Type 0} (o : Option A) (fault : F) (x : A) → ok_or o fault ≡ Ok x → o ≡ Some x
was_there (Some y) fault x told = cc
was_there None fault x told = absurd (cc)

-- two ends without a fault are the same where what they came to is
pub same_end : {A F : Type 0} (x y : A) → ◌≡◌ {A = Result A F} (Ok x) (Ok y) → x ≡ y
same_end x y same = cc

-- a line goes one way or the other
pub either_way : {A F : Type 0} (test : Bool) (one other : Result A F) (y : A) (P : Type 0) → (one ≡ Ok y → P) → (other ≡ Ok y → P) → (if test then one else other) ≡ Ok y → P
either_way true one other y P first second told = first told
either_way false one other y P first second told = second told

-- what holds of a list and of the list with one more holds after a push, whether memory was there or not
pub after_push : {X : Type 0} (P : List X → Type 0) (pushed : Bool) (before after : List X) (x : X) → after ≡ (if pushed then before ++ x ∷ [] else before) → P before → P (before ++ x ∷ []) → P after
after_push P true before after x is without more = subst P (sym is) more
after_push P false before after x is without more = subst P (sym is) without

-- a line that adds a part with a new name: there is room for it, its name is read and new, and its value is read after the name
module _ {V Y F : Type 0} (room : Bool) (limit twice : F) (name_read : Result (List ℕ) F) (is_new : List ℕ → Bool) (value_read : Result V F) (made : List ℕ → V → Result Y F) (y : Y) where
  pub record AddsNamed : Type 0 where
    pub name : List ℕ
    pub value : V
    pub has_room : room ≡ true
    pub named : name_read ≡ Ok name
    pub new : is_new name ≡ true
    pub valued : value_read ≡ Ok value
    pub gives : made name value ≡ Ok y

  pub adds_named : (check room limit >>= λ _. name_read >>= λ name. check (is_new name) twice >>= λ _. value_read >>= made name) ≡ Ok y → AddsNamed
  adds_named told =
      let valued : List ℕ → Unit {0} → Result Y F = λ name _. value_read >>= made name in
      let tested : List ℕ → Result Y F = λ name. check (is_new name) twice >>= valued name in
      let first = led_on (check room limit) (λ _. name_read >>= tested) y told in
      let name = led_on name_read tested y first.2 in
      let new = led_on (check (is_new name.0) twice) (valued name.0) y name.2 in
      let value = led_on value_read (made name.0) y new.2 in
      record {
        name = name.0;
        value = value.0;
        has_room = passed room limit first.0 first.1;
        named = name.1;
        new = passed (is_new name.0) twice new.0 new.1;
        valued = value.1;
        gives = value.2;
      }
