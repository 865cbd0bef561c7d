-- The examples of specs/Examples, computed.
use mathlib.Core.Path.{refl}
use Rattle.sets.specs.Members.{has, count, size}
use Rattle.sets.specs.Sets.{plus, first, every, within}
use Rattle.text.specs.Parts.{joined}
use Rattle.formats.specs.Records.{mark_of, mark_at, header_of, order_at, view_at}
use Rattle.formats.specs.ViewFile.{view_bytes, file_of, tested_at, values_read, read_from, read_of}
use Rattle.formats.specs.Examples.{hold, ExamplesHold, RefusedFile, ByteForByte, OrdersRead}

pub examples_hold : ExamplesHold
unfolding hold read_of read_from header_of view_at mark_at mark_of tested_at values_read has plus first every count within size
examples_hold = refl

pub refused_file : RefusedFile
unfolding read_of read_from header_of view_at mark_at mark_of tested_at values_read has plus first every count within size
refused_file = refl

pub byte_for_byte : ByteForByte
unfolding file_of view_bytes joined read_of read_from header_of view_at mark_at mark_of tested_at values_read has plus first every count within size
byte_for_byte = record { read = refl; written = refl; past = refl }

pub orders_read : OrdersRead
unfolding order_at mark_at mark_of
orders_read =
    record {
      nothing_left = refl;
      one_byte = refl;
      header_again = refl;
      view = refl;
      foreign = refl;
      enter = refl;
      enter_cut = refl;
      step = refl;
      step_cut = refl;
      crash = refl;
      crash_cut = refl;
      past_another = refl;
    }
