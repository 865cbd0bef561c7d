-- The examples, computed. The machine's test of its own shape is dear to compute, so a call that is made is first rid of it.
use Prim.Native.Nat.{ℕ, ◌+◌, ◌≤◌, ◌<◌}
use mathlib.Core.Bool.{true, not}
use mathlib.Core.Path.{◌≡◌, refl, ap, ◌∙◌}
use mathlib.Core.List.{List, [], ◌∷◌, ◌++◌}
use native.Mathlib.Omega.{arith}
use lib.Dec.{lit≤}
use lib.ListN.{length, drop}
use Rattle.sets.specs.Members.{tick, has}
use Rattle.sets.specs.Sets.{plus, set_of}
use Rattle.rules.specs.declared.Called.{Called}
use Rattle.rules.specs.Calls.{accepted, fresh}
use Rattle.rules.specs.Shape.{shaped}
use Rattle.rules.proofs.Laws.Shape.{record_shaped}
use Rattle.rules.proofs.Laws.Keeps.{meets_fresh}
use Rattle.rules.proofs.Laws.Bare.{step_bare}
use Rattle.history.specs.Runs.{steps, from, tally, all_steps, refused_calls, accepted_step, is_refused}
use Rattle.history.specs.Examples.{printed}
use Rattle.history.proofs.Examples.{printed_counts}
use Rattle.formats.specs.declared.FileAnswer.TheVariants.{Whole}
use Rattle.formats.specs.Numbers.{file_number, place_of}
use Rattle.formats.specs.Examples.{MN}
use Rattle.formats.specs.Records.{mark_of, mark_at, header_of, order_at}
use Rattle.replays.specs.Replays.{Orders, orders_from, replay_of}
use Rattle.text.specs.Parts.{joined}
use Rattle.formats.specs.ViewFile.{view_bytes, file_of}
use Rattle.replays.specs.OrderFile.{order_bytes}
use Rattle.replays.specs.Writes.{views_of, bytes_of, write_of, buffer_of}
use Rattle.replays.specs.Examples.{RunLine, printed_file, Printed, PrintedCuts, Small, OrdersRefused, HeaderRefused, Spelled, FilesWritten, WriteLine, WriterAnswers}
use Rattle.replays.proofs.Writes.{every_write_numbered}
use Rattle.world.specs.Calls.{counts, leaves}

-- what the printed file holds, with a budget of 12 or more
holds-printed : orders_from 65535 printed_file 3 ≡ record { answer = Whole; place = 47; calls = printed }
unfolding orders_from order_at mark_at mark_of
holds-printed = refl

holds_twelve : orders_from 12 printed_file 3 ≡ record { answer = Whole; place = 47; calls = printed }
unfolding orders_from order_at mark_at mark_of
holds_twelve = refl

line_of : (budget : ℕ) → orders_from budget printed_file 3 ≡ record { answer = Whole; place = 47; calls = printed } → RunLine printed_file budget 0 47 12 9 1
unfolding replay_of header_of mark_at mark_of
line_of budget e =
    record {
      number_is = ap (λ (o : Orders). file_number o.answer) e;
      place_is = ap (λ (o : Orders). place_of o.answer o.place 47) e;
      taken_is = ap (λ (o : Orders). length o.calls) e;
      accesses_is = ap (λ (o : Orders). all_steps 2 o.calls) e ∙ printed_counts.accesses;
      refused_is = ap (λ (o : Orders). refused_calls 2 o.calls) e ∙ printed_counts.refused;
    }

pub printed-example : Printed
unfolding replay_of header_of orders_from order_at mark_at mark_of
printed-example =
    record {
      line = line_of 65535 holds-printed;
      state = ap (λ (o : Orders). from (fresh 2) o.calls) holds-printed;
      enough = line_of 12 holds_twelve;
      short_number = refl;
      short_place = refl;
      short_taken = refl;
    }

pub printed_cuts : PrintedCuts
unfolding joined replay_of header_of orders_from order_at mark_at mark_of
printed_cuts = refl

pub small_examples : Small
unfolding replay_of header_of orders_from order_at mark_at mark_of counts leaves
small_examples =
    record {
      spent_none = record { number_is = refl; place_is = refl; taken_is = refl; accesses_is = refl; refused_is = refl };
      spent_one = record { number_is = refl; place_is = refl; taken_is = refl; accesses_is = refl; refused_is = refl };
      spent_cut = record { number_is = refl; place_is = refl; taken_is = refl; accesses_is = refl; refused_is = refl };
      spent_header = record { number_is = refl; place_is = refl; taken_is = refl; accesses_is = refl; refused_is = refl };
      empty = record { number_is = refl; place_is = refl; taken_is = refl; accesses_is = refl; refused_is = refl };
      one_byte = record { number_is = refl; place_is = refl; taken_is = refl; accesses_is = refl; refused_is = refl };
      other_byte = record { number_is = refl; place_is = refl; taken_is = refl; accesses_is = refl; refused_is = refl };
      other_mark = record { number_is = refl; place_is = refl; taken_is = refl; accesses_is = refl; refused_is = refl };
      half_mark = record { number_is = refl; place_is = refl; taken_is = refl; accesses_is = refl; refused_is = refl };
      bare_mark = record { number_is = refl; place_is = refl; taken_is = refl; accesses_is = refl; refused_is = refl };
      none = record { number_is = refl; place_is = refl; taken_is = refl; accesses_is = refl; refused_is = refl };
      many = record { number_is = refl; place_is = refl; taken_is = refl; accesses_is = refl; refused_is = refl };
      fewest = record { number_is = refl; place_is = refl; taken_is = refl; accesses_is = refl; refused_is = refl };
      most = record { number_is = refl; place_is = refl; taken_is = refl; accesses_is = refl; refused_is = refl };
      byte_left = record { number_is = refl; place_is = refl; taken_is = refl; accesses_is = refl; refused_is = refl };
      any_byte_left = record { number_is = refl; place_is = refl; taken_is = refl; accesses_is = refl; refused_is = refl };
      again = record { number_is = refl; place_is = refl; taken_is = refl; accesses_is = refl; refused_is = refl };
      again_bare = record { number_is = refl; place_is = refl; taken_is = refl; accesses_is = refl; refused_is = refl };
      view = record { number_is = refl; place_is = refl; taken_is = refl; accesses_is = refl; refused_is = refl };
      foreign = record { number_is = refl; place_is = refl; taken_is = refl; accesses_is = refl; refused_is = refl };
      half_foreign = record { number_is = refl; place_is = refl; taken_is = refl; accesses_is = refl; refused_is = refl };
      enter_cut = record { number_is = refl; place_is = refl; taken_is = refl; accesses_is = refl; refused_is = refl };
      step_cut = record { number_is = refl; place_is = refl; taken_is = refl; accesses_is = refl; refused_is = refl };
      crash_cut = record { number_is = refl; place_is = refl; taken_is = refl; accesses_is = refl; refused_is = refl };
    }

-- process 3 of 2 is refused
one_refused : tally is_refused (fresh 2) (steps 3 ∷ []) ≡ 1
unfolding counts
one_refused = ap (λ (c : Called). tick (not (accepted c)) + 0) (step_bare 2 (fresh 2) (meets_fresh 2 (lit≤ tt) (lit≤ tt)) 3)

no_access : tally accepted_step (fresh 2) (steps 3 ∷ []) ≡ 0
unfolding counts
no_access = ap (λ (c : Called). tick (accepted c) + 0) (step_bare 2 (fresh 2) (meets_fresh 2 (lit≤ tt) (lit≤ tt)) 3)

pub refused-examples : OrdersRefused
unfolding replay_of header_of orders_from order_at mark_at mark_of
refused-examples =
    record {
      skipped = record { number_is = refl; place_is = refl; taken_is = refl; accesses_is = no_access; refused_is = one_refused };
      then_cut = record { number_is = refl; place_is = refl; taken_is = refl; accesses_is = no_access; refused_is = one_refused };
      then_cut_later = record { number_is = refl; place_is = refl; taken_is = refl; accesses_is = no_access; refused_is = one_refused };
      then_spent = record { number_is = refl; place_is = refl; taken_is = refl; accesses_is = no_access; refused_is = one_refused };
    }

pub header_examples : HeaderRefused
unfolding replay_of header_of mark_at mark_of
header_examples =
    record {
      many = refl;
      none = refl;
      line = record { number_is = refl; place_is = refl; taken_is = refl; accesses_is = refl; refused_is = refl };
    }

pub spelled_examples : Spelled
unfolding order_bytes header_of orders_from order_at mark_at mark_of
spelled_examples = record { written = refl; read = refl; processes = refl; fewer = refl }

pub files_written : FilesWritten
unfolding bytes_of views_of file_of view_bytes joined set_of has plus
files_written = record { none = refl; one = refl; two = refl; others = refl }

-- a fresh machine of 33 fails the first test of shape; one of 2 passes all, by a law
unshaped_writes : (buffer : List ℕ) → WriteLine (fresh 33) buffer 1 0 buffer
unfolding write_of buffer_of shaped
unshaped_writes buffer = record { number_is = refl; bytes_are = refl; buffer_is = refl }

two_shaped : shaped (fresh 2) ≡ true
two_shaped = record_shaped (fresh 2) (meets_fresh 2 (lit≤ tt) (lit≤ tt)).shape

two-written : bytes_of (fresh 2) ≡ MN 2
unfolding bytes_of views_of file_of joined set_of has plus
two-written = refl

short_writes : (buffer : List ℕ) → length buffer < 3 → WriteLine (fresh 2) buffer 17 0 buffer
short_writes buffer h =
    let w = every_write_numbered (fresh 2) buffer in
    let k = w.seventeen.1 (two_shaped, rw two-written h) in
    let n = w.nothing (λ z. omega arith) in
    record { number_is = k; bytes_are = n.0; buffer_is = n.1 }

long_writes : (buffer : List ℕ) → 3 ≤ length buffer → WriteLine (fresh 2) buffer 0 3 (MN 2 ++ drop 3 buffer)
long_writes buffer h =
    let w = every_write_numbered (fresh 2) buffer in
    let k = w.none.1 (two_shaped, rw two-written h) in
    let n = w.written k in
    record { number_is = k; bytes_are = n.0 ∙ ap length two-written; buffer_is = n.1 ∙ ap (λ (l : List ℕ). l ++ drop (length l) buffer) two-written }

pub writer_answers : WriterAnswers
writer_answers =
    record {
      unshaped = unshaped_writes (1 ∷ 2 ∷ 3 ∷ 4 ∷ []);
      unshaped_short = unshaped_writes (1 ∷ 2 ∷ []);
      short = short_writes (1 ∷ 2 ∷ []) (lit≤ tt);
      exact = long_writes (1 ∷ 2 ∷ 3 ∷ []) (lit≤ tt);
      longer = long_writes (1 ∷ 2 ∷ 3 ∷ 4 ∷ 5 ∷ []) (lit≤ tt);
    }
