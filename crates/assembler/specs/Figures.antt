-- Document 01's figures as sources, and some refusals.
use Rattle.std.specs.Prelude.{ℕ, List, [], ◌∷◌, map, ◌≡◌}
use Prim.Native.String.{String}
use Rattle.isa.specs.Text.{bytes}
use Rattle.assembler.specs.Source.{Assembly, words, refused, at-line, assembly}

abbrev pub assembled : List ℕ → Assembly
assembled source = assembly source 16

-- a source, and what it is assembled to
pub record Row : Type 0 where
  pub source : List ℕ
  pub becomes : Assembly

abbrev pub row : String → Assembly → Row
row s a = record { source = bytes s; becomes = a }

abbrev pub rows : List Row
rows =
    row "add s3,s1,s2" (words (0x040C1080 ∷ []))
    ∷ row "add v3 , v1,v2 ; lanes" (words (0x040C108E ∷ []))
    ∷ row "cmplt s59,v1,v2" (words (0x12EC1086 ∷ []))
    ∷ row "addi s1,s1,-1" (words (0x44041FF8 ∷ []))
    -- of movei 02 (T-02): "In writing it runs from -32,768 to 32,767"
    ∷ row "movei s1,-32768" (words (0x62060000 ∷ []))
    ∷ row "movei s1,0x8000" (refused (at-line 12 1))
    -- 02 (T-08): "T-01 takes the new names."
    ∷ row "fadd s0,s0,s0" (words (0x21000000 ∷ []))
    ∷ row "load32 s2,(s1)" (words (0x82081000 ∷ []))
    ∷ row "a:\njmp a\nend" (words (0x70000000 ∷ 0x7A000000 ∷ []))
    ∷ row "jmp ((((((((0))))))))" (words (0x70000000 ∷ []))
    ∷ row "jmp (((((((((0)))))))))" (refused (at-line 14 1))
    ∷ row "jmp (((((((((0))))))))" (refused (at-line 12 1))
    ∷ row "jmp 2147483648+1-1" (refused (at-line 14 1))
    ∷ row "jmp 99999999999999999999999999999999999999999" (refused (at-line 14 1))
    -- 13 before 14, on one line too
    ∷ row "jmp 99999999999+b" (refused (at-line 13 1))
    ∷ row "jmp (((((((((b)))))))))" (refused (at-line 13 1))
    ∷ row "ab:\nend\nabc:\njmp abc" (words (0x7A000000 ∷ 0x70000000 ∷ []))
    ∷ row "jmp b\nadd s1,v1,v2\nadd s1" (refused (at-line 12 3))
    ∷ row "jmp b\nadd s1,v1,v2" (refused (at-line 13 1))
    ∷ row "end\nadd s1,v1,v2" (refused (at-line 12 2))
    ∷ row "jmp(0)" (refused (at-line 12 1))
    ∷ row "a:a:" (refused (at-line 12 1))
    ∷ row "a:\n a :" (refused (at-line 13 2))
    ∷ row ";" (refused (at-line 1 0))
    ∷ row "loadv v1,(4)(s2)" (words (0x88042020 ∷ []))
    ∷ []

unfoldable pub Figures : Type 0
Figures = map (λ r. assembled r.source) rows ≡ map (λ r. r.becomes) rows
