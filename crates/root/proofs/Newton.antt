-- The arithmetic of Newton's iteration for a square root, on whole numbers, as the kit's example `hackers_delight` proves it: a step from any guess above 0 gives a
-- number that is at least the root, and a step from a guess whose square is above n gives a smaller one. Then the lengths of the code's numbers.
use mathlib.Core.Path.{◌≡◌, refl, sym, ap, subst, ◌∙◌}
use Prim.Native.Nat.{ℕ, zero, suc, ◌+◌, ◌*◌, ◌/◌, ◌^◌, ◌≤◌, ◌<◌}
use native.Mathlib.Omega.{arith}
use native.Mathlib.Nat.{le_refl, le_trans, le_of_eq, le_of_lt, lt_of_lt_of_le, lt_of_le_of_lt, lt-suc_self, zero-lt-suc, not-suc-le-zero, lt_of_not-le, le_dest, le_intro, add_comm, add_assoc, add_left_comm, mul_comm, mul-add, add-mul, two-mul, mul-le-mul_left, mul-le-mul_right, add-lt-add_of_le_of_lt, div-lt_iff_lt-mul, add-suc}
use native.Mathlib.Decide.{dec_le}
use lib.Arith.{add-le_cancel_left}
use lib.Pow.{shl_lt}
use native.Mathlib.Numerals.{add-one}

-- Twice a product is at most the two squares, which is what makes the mean of two numbers at least the root of their product.
-- For b written a + d: (a + d) * (a + d) + a * a is a * (a + d) twice and d * d more.
squares_regrouped : (a d : ℕ) → a * (a + d) + a * (a + d) + d * d ≡ (a + d) * (a + d) + a * a
squares_regrouped a d = simp (mul-add, add-mul, mul_comm, add_assoc, add_comm, add_left_comm) refl

products_le_squares_at : (a d : ℕ) → a * (a + d) + a * (a + d) ≤ (a + d) * (a + d) + a * a
products_le_squares_at a d = le_intro (a * (a + d) + a * (a + d)) (d * d) (squares_regrouped a d)

products_le_squares_of_le : (a b : ℕ) → a ≤ b → a * b + a * b ≤ b * b + a * a
products_le_squares_of_le a b h = subst (λ (x : ℕ). a * x + a * x ≤ x * x + a * a) (le_dest h).1 (products_le_squares_at a (le_dest h).0)

products_le_squares : (a b : ℕ) → a * b + a * b ≤ b * b + a * a
products_le_squares a b = either (dec_le a b)
  where
    either : Dec (a ≤ b) → a * b + a * b ≤ b * b + a * a
    either (yes h) = products_le_squares_of_le a b h
    either (no f) =
        le_trans (le_of_eq (ap (λ (z : ℕ). z + z) (mul_comm a b)))
        (le_trans (products_le_squares_of_le b a (le_of_lt (lt_of_not-le f))) (le_of_eq (add_comm (a * a) (b * b))))

mul_two : (m : ℕ) → m * 2 ≡ m + m
mul_two m = mul_comm m 2 ∙ two-mul m

-- With q for n / r and m for one more than the new guess: n is below the next multiple of r, (q + 1) * r, and r + q is below m twice.
-- So r * r + (q + 1) * r, which is (r + q + 1) * r, is at most m * r twice, and so at most r * r + m * m: n < (q + 1) * r ≤ m * m.
above : (n r q m : ℕ) → n < suc q * r → r + q < m + m → n < m * m
above n r q m Below-next below-twice =
    lt_of_lt_of_le Below-next
    (add-le_cancel_left (r * r)
    (le_trans (le_of_eq (sym (add-mul r (suc q) r) ∙ ap (λ (x : ℕ). x * r) (add-suc r q)))
    (le_trans (mul-le-mul_right r below-twice)
    (le_trans (le_of_eq (add-mul m m r)) (products_le_squares m r)))))

-- A step from any guess r above 0: one more than the new guess, squared, is above n. So the new guess is at least the root, whether or not r was.
pub newton_above : (n r : ℕ) → zero < r → n < ((r + n / r) / 2 + 1) * ((r + n / r) / 2 + 1)
newton_above n r hr =
    subst (λ (x : ℕ). n < x * x) (sym (add-one ((r + n / r) / 2)))
    (above n r (n / r) (suc ((r + n / r) / 2))
    ((div-lt_iff_lt-mul hr).0 (lt-suc_self (n / r)))
    (lt_of_lt_of_le ((div-lt_iff_lt-mul (zero-lt-suc 1)).0 (lt-suc_self ((r + n / r) / 2))) (le_of_eq (mul_two (suc ((r + n / r) / 2))))))

-- A number whose square is above another is above 0.
pub sq_pos : (n r : ℕ) → n < r * r → zero < r
sq_pos n zero h = absurd (not-suc-le-zero h)
sq_pos n (suc k) h = zero-lt-suc k

-- A step from a guess whose square is above n: n / r is below r, so r + n / r is below r twice, and its half is below r.
pub newton_below : (n r : ℕ) → n < r * r → (r + n / r) / 2 < r
newton_below n r h =
    (div-lt_iff_lt-mul (zero-lt-suc 1)).1
    (lt_of_lt_of_le (add-lt-add_of_le_of_lt (le_refl r) ((div-lt_iff_lt-mul (sq_pos n r h)).1 h)) (le_of_eq (sym (mul_two r))))

-- The quotient is below b where n is below a * b and the divisor is a at least.
quotient_lt : (n g a b : ℕ) → n < a * b → 0 < a → a ≤ g → n / g < b
quotient_lt n g a b h p l = (div-lt_iff_lt-mul (lt_of_lt_of_le p l)).1 (lt_of_lt_of_le h (le_trans (mul-le-mul_right b l) (le_of_eq (mul_comm g b))))

-- The quotients of the first two steps, from a guess of 26 to 28 digits.
pub two_steps : (n g : ℕ) → n < 2 ^ 54 → 2 ^ 25 ≤ g → g < 2 ^ 28 → (n / g < 2 ^ 29) × (n / ((g + n / g) / 2) < 2 ^ 30)
two_steps n g h low high = (quotient_lt n g (2 ^ 25) (2 ^ 29) h (omega arith) low, quotient_lt n ((g + n / g) / 2) (2 ^ 24) (2 ^ 30) h (omega arith) (omega arith))

-- A number of 30 digits has a square of at most 60.
pub square_fits : (r : ℕ) → r < 2 ^ 30 → r * r < 2 ^ 60
square_fits r h = lt_of_le_of_lt (mul-le-mul_left r (le_of_lt h)) (shl_lt 30 30 h)
