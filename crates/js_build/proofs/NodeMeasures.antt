-- What an operand says of its tree, part by part.
use Rattle.std.proofs.Common.{◌≡◌, ℕ, ◌+◌, max, Bool, ◌||◌}
use Rattle.js_terms.specs.declared.operators.BinaryOperator.{BinaryOperator}
use Rattle.js_build.specs.Growing.{joined_more}
use Rattle.js_build.specs.Measures.{bare_in_binary}

abbrev pub triple : ℕ → ℕ → Bool → ℕ × (ℕ × Bool)
triple a b d = (a, (b, d))

pub three_same : (a x b y : ℕ) (d z : Bool) → a ≡ x → b ≡ y → d ≡ z → triple a b d ≡ triple x y z
three_same a x b y d z p q r = rw (p, q, r)

-- one more than the higher of two
pub max_same : (a b x y m : ℕ) → m ≡ max a b → a ≡ x → b ≡ y → max x y + 1 ≡ m + 1
max_same a b x y m p q r = rw (p, q, r)

pub max_three_same : (a b d x y z m n : ℕ) → n ≡ max a m → m ≡ max b d → a ≡ x → b ≡ y → d ≡ z → max x (max y z) + 1 ≡ n + 1
max_three_same a b d x y z m n o p q r s = rw (o, p, q, r, s)

pub or_same : (a b x y : Bool) → a ≡ x → b ≡ y → x || y ≡ a || b
or_same a b x y p q = rw (p, q)

pub bare_same : (o : BinaryOperator) (a b x y r : Bool) → r ≡ bare_in_binary o a b → a ≡ x → b ≡ y → bare_in_binary o x y ≡ r
bare_same o a b x y r p q s = rw (p, q, s)

pub max_of : (a b x y m : ℕ) → m ≡ max a b → a ≡ x → b ≡ y → m ≡ max x y
max_of a b x y m p q r = rw (p, q, r)

pub more_of : (a b x y m : ℕ) → m ≡ joined_more a b → a ≡ x → b ≡ y → m ≡ joined_more x y
more_of a b x y m p q r = rw (p, q, r)

-- one more than what is the same, and than the highest of three
pub one_same : {a x : ℕ} → a ≡ x → x + 1 ≡ a + 1
one_same p = rw p

pub highest_same : {a b x y m : ℕ} → m ≡ max a b → a ≡ x → b ≡ y → max x y + 1 ≡ m + 1
highest_same p q r = rw (p, q, r)

pub highest_three : {a b d x y z m n : ℕ} → n ≡ max a m → m ≡ max b d → a ≡ x → b ≡ y → d ≡ z → max x (max y z) + 1 ≡ n + 1
highest_three o p q r s = rw (o, p, q, r, s)

pub all_same : {a x b y : ℕ} {d z : Bool} → a ≡ x → b ≡ y → d ≡ z → triple a b d ≡ triple x y z
all_same p q r = rw (p, q, r)
