-- The product of two numbers by digits of 32 bits, column by column with carries. Assumes nothing.
use mathlib.Core.Path.{◌≡◌, refl, ap₂}
use Prim.Native.Nat.{ℕ, ◌+◌, ◌*◌, ◌/◌, ◌%◌, ◌^◌}
use native.Mathlib.Nat.{add_assoc, add_comm, add_left_comm, mul_assoc, mul_comm, mul_left_comm, mul-add, add-mul, div-add-mod'}
use native.Mathlib.Omega.{arith}

abbrev P : ℕ
P = 4294967296

-- two digits times two digits, in any base
expanded : (B x₀ x₁ y₀ y₁ : ℕ) → (x₁ * B + x₀) * (y₁ * B + y₀) ≡ x₁ * y₁ * (B * B) + x₁ * y₀ * B + x₀ * y₁ * B + x₀ * y₀
expanded B x₀ x₁ y₀ y₁ = simp (mul-add, add-mul, mul_assoc, mul_comm, mul_left_comm, add_assoc, add_comm, add_left_comm) refl

module _ (a b : ℕ) where
  abbrev lowest : ℕ
  lowest = a % P * (b % P)

  abbrev middle : ℕ
  middle = a / P * (b % P) + lowest / P

  abbrev next : ℕ
  next = a % P * (b / P) + middle % P

  abbrev high : ℕ
  high = a / P * (b / P) + middle / P + next / P

  abbrev low : ℕ
  low = next % P * P + lowest % P

  pub whole : high * 2 ^ 64 + low ≡ a * b
  whole =
      let e = ap₂ (λ x y. x * y) (div-add-mod' a P) (div-add-mod' b P) in
      omega (arith, expanded P (a % P) (a / P) (b % P) (b / P))
