-- The rows of specs/: each is computed.
use mathlib.Core.Path.{refl}
use Rattle.answer.specs.Refusal.{first_that_applies}
use Rattle.machine.specs.Machine.{all_threads, any_thread, count_threads, start}
use Rattle.machine.specs.Search.{all, any, count}
use Rattle.machine.specs.WellFormed.{numbers_in_range, well_formed_within}
use Rattle.image_layout.specs.Join.{concat_below, total, all_below}
use Rattle.image_layout.specs.Layout.{position_in, order_of, record_of, section_of, start_of, body_at, stands_at, heads_of, heads_in}
use Rattle.little_endian.specs.Numbers.{number_at, number_bytes, bytes_of}
use Rattle.image.specs.Fields.{checked_thread, thread_of}
use Rattle.image.specs.Image.{entry_in, threads_in, machine_in, record_in}
use Rattle.image.specs.Opening.{record_bytes, opening_number}
use Rattle.image.specs.Refusal.{no_counts, write_number, read_number_in}
use Rattle.image.specs.Rows.{BytesHold, WriteOrder, ReadOrder, OpeningOrder}

pub bytes-hold : BytesHold
unfolding record_bytes concat_below section_of record_of bytes_of number_bytes
bytes-hold = record { hd = λ m. refl; old-bytes = refl; record-bytes = refl; sr = refl; vr = refl; mm = refl; word = refl }

pub write-order : WriteOrder
unfolding write_number no_counts all_below first_that_applies well_formed_within numbers_in_range all_threads any_thread count_threads all any count start
write-order = record {
  room = refl;
  memory = refl;
  buffer = refl;
  not-well-formed = refl;
  taken = refl;
  old-buffer = refl;
  old-not-well-formed = refl;
  old-count = refl;
  old-last-count = refl;
  old-dropped = refl;
  old-taken = refl;
}

pub read-order : ReadOrder
unfolding read_number_in first_that_applies heads_in heads_of all_below stands_at start_of total order_of position_in
read-order = record { room = refl; memory = refl; length = refl; marks = refl; old-marks = refl; old-length = refl; neither = refl }

pub opening-order : OpeningOrder
unfolding opening_number record_bytes number_at number_bytes concat_below section_of record_of first_that_applies heads_of all_below stands_at start_of total order_of position_in record_in entry_in threads_in machine_in body_at thread_of checked_thread well_formed_within numbers_in_range all_threads any_thread count_threads all any count
opening-order = record { taken = refl; not-well-formed = refl; not_carried = refl; marked = refl; old-mark = refl; out-of-place = refl }
