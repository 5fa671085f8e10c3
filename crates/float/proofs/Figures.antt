-- The worked figures, computed from the rules.
use mathlib.Core.Path.{refl}
use lib.Ieee as Ieee
use Rattle.float.specs.Floats.{truncate, i32tof32_of}
use Rattle.float.specs.Figures.{OfI32tof32, OfF32toi32, OfArithmetic, OfCompares}

pub of-i32tof32 : OfI32tof32
unfolding OfI32tof32 i32tof32_of Ieee.of_int Ieee.to_bits
of-i32tof32 = (refl, refl, refl, refl, refl, refl)

pub of-f32toi32 : OfF32toi32
unfolding OfF32toi32 truncate Ieee.of_bits
of-f32toi32 = (refl, refl, refl, refl, refl, refl, refl)

pub of-arithmetic : OfArithmetic
unfolding OfArithmetic Ieee.of_bits Ieee.to_bits Ieee.add Ieee.sub Ieee.mul Ieee.div
of-arithmetic = (refl, refl, refl, refl, refl, refl, refl)

pub of-compares : OfCompares
unfolding OfCompares Ieee.of_bits Ieee.eq Ieee.ne Ieee.le
of-compares = (refl, refl, refl, refl)
