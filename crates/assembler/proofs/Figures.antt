-- The figures, computed.
use mathlib.Core.Path.{refl}
use Rattle.isa.specs.Text.{bytes, bytes_from}
use Rattle.isa.specs.Test.{all, all_from}
use Rattle.word_layout.specs.Layout.{signed, fits_signed}
use Rattle.isa.specs.Number.{fits_movei}
use Rattle.isa.specs.Write.{write, write_r, write_i, write_movei, write_j, write_c, write_m, written}
use Rattle.token.specs.Token.{leading_blanks, leading_word, tokens_in}
use Rattle.token.specs.Number.{digits_on, numeral, number}
use Rattle.token.specs.Name.{all_letters}
use Rattle.expression.specs.Grammar.{word_term, sum_at, expression_at}
use Rattle.expression.specs.Value.{bounded, value_sum}
use Rattle.expression.specs.Label.{same}
use Rattle.statement.specs.Mnemonic.{with_immediate, nameable, named_in}
use Rattle.statement.specs.Register.{digits_of, register_of}
use Rattle.statement.specs.Operand.{operands_at}
use Rattle.statement.specs.Line.{up_to, line_of}
use Rattle.statement.specs.Meaning.{meaning_with}
use Rattle.assembler.specs.Source.{texts_of, labels_from, address_among, count, first_from, words_from, assembly}
use Rattle.assembler.specs.Figures.{Figures}

pub figures : Figures
unfolding bytes bytes_from all all_from signed fits_signed write write_r write_i write_movei write_j write_c write_m written fits_movei leading_blanks leading_word tokens_in digits_on numeral number all_letters word_term sum_at expression_at bounded value_sum same with_immediate nameable named_in digits_of register_of operands_at up_to line_of meaning_with texts_of labels_from address_among count first_from words_from assembly Figures
figures = refl
