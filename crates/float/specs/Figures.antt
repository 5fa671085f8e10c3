-- Worked figures of the rules: ties and ends of 48 and 49, infinities, NaNs, zeros and subnormals.
use Rattle.std.specs.Prelude.{◌≡◌, true, false}
use Rattle.float.specs.Floats.{fadd_of, fsub_of, fmul_of, fdiv_of, feq_of, fne_of, fge_of, i32tof32_of, f32toi32_of}

-- 48: 2 ^ 24 + 1 and 2 ^ 24 + 3 tie to even, the largest register rounds up, the least is itself; -1, 0
unfoldable pub OfI32tof32 : Type 0
OfI32tof32 =
    (i32tof32_of 16777217 ≡ 0x4b80_0000) × (i32tof32_of 16777219 ≡ 0x4b80_0002) × (i32tof32_of 0x7fff_ffff ≡ 0x4f00_0000)
    × (i32tof32_of 0x8000_0000 ≡ 0xcf00_0000) × (i32tof32_of 0xffff_ffff ≡ 0xbf80_0000) × (i32tof32_of 0 ≡ 0)

-- 49: -0.9, -1.5, -2 ^ 31, 2 ^ 31, the largest below it, an infinity, a NaN
unfoldable pub OfF32toi32 : Type 0
OfF32toi32 =
    (f32toi32_of 0xbf66_6666 ≡ 0) × (f32toi32_of 0xbfc0_0000 ≡ 0xffff_ffff) × (f32toi32_of 0xcf00_0000 ≡ 0x8000_0000) × (f32toi32_of 0x4f00_0000 ≡ 0x8000_0000)
    × (f32toi32_of 0x4eff_ffff ≡ 0x7fff_ff80) × (f32toi32_of 0xff80_0000 ≡ 0x8000_0000) × (f32toi32_of 0x7fc0_0000 ≡ 0x8000_0000)

-- 3 - 1, inf - inf, 0 / 0, 1 / 0, a signalling NaN, half of the smallest normal value, 2 ^ 24 + 1 rounded once
unfoldable pub OfArithmetic : Type 0
OfArithmetic =
    (fsub_of 0x4040_0000 0x3f80_0000 ≡ 0x4000_0000) × (fsub_of 0x7f80_0000 0x7f80_0000 ≡ 0x7fc0_0000) × (fdiv_of 0 0x8000_0000 ≡ 0x7fc0_0000) × (fdiv_of 0x3f80_0000 0 ≡ 0x7f80_0000)
    × (fadd_of 0xff80_0001 0x3f80_0000 ≡ 0x7fc0_0000) × (fmul_of 0x0080_0000 0x3f00_0000 ≡ 0x0040_0000)
    × (fadd_of 0x4b80_0000 0x3f80_0000 ≡ 0x4b80_0000)

-- -0 equals +0, a NaN equals nothing, itself neither
unfoldable pub OfCompares : Type 0
OfCompares =
    (feq_of 0x8000_0000 0 ≡ true) × (feq_of 0x7fc0_0000 0x7fc0_0000 ≡ false) × (fne_of 0x7fc0_0000 0x7fc0_0000 ≡ true)
    × (fge_of 0x7fc0_0000 0 ≡ false)
