-- What a NaN result is.
use mathlib.Core.Path.{◌≡◌, refl, sym, ◌∙◌, ap}
use lib.Dec.{T}
use lib.Ieee as Ieee
use lib.Ieee.{Float, nan, binary32}
use lib.Ieee.Bits.{of_bits-to_bits}
use lib.Ieee.Fits.{add-fits, sub-fits, mul-fits, div-fits}
use Rattle.float.specs.Floats.{value, pattern}
use Rattle.float.specs.Claims.{NanPattern, AnyNanResult}

pub nan_pattern : NanPattern
unfolding Ieee.to_bits
nan_pattern = refl

-- a value that fits is read back from its pattern, so that one which reads as a NaN was one
nan-result : (x : Float) → T (Ieee.fits binary32 x) → value (pattern x) ≡ nan → pattern x ≡ 0x7fc0_0000
nan-result x f e = ap pattern (sym (of_bits-to_bits binary32 x f) ∙ e) ∙ nan_pattern

pub any-nan-result : AnyNanResult
unfolding AnyNanResult
any-nan-result = (
  (λ a b. nan-result (Ieee.add binary32 (value a) (value b)) (add-fits binary32 (value a) (value b))),
  (λ a b. nan-result (Ieee.sub binary32 (value a) (value b)) (sub-fits binary32 (value a) (value b))),
  (λ a b. nan-result (Ieee.mul binary32 (value a) (value b)) (mul-fits binary32 (value a) (value b))),
  (λ a b. nan-result (Ieee.div binary32 (value a) (value b)) (div-fits binary32 (value a) (value b))),
)
