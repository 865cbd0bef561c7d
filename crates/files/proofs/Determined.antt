-- Each public function's contract determines its answer (document 01, "How much a contract must say"): two answers that meet it are equal.
use Rattle.sets.proofs.Determined.{Determined, one_value}
use Rattle.files.proofs.word_at.Kinds as word-at-kinds
use Rattle.files.proofs.word_at.Reads as word-at-reads
use Rattle.files.proofs.header_of.Kinds as header-of-kinds
use Rattle.files.proofs.header_of.Reads as header-of-reads
use Rattle.files.proofs.body_fits.Kinds as body-fits-kinds
use Rattle.files.proofs.body_fits.Reads as body-fits-reads
use Rattle.files.proofs.order_at.Kinds as order-at-kinds
use Rattle.files.proofs.order_at.Reads as order-at-reads
use Rattle.files.proofs.view_at.Kinds as view-at-kinds
use Rattle.files.proofs.view_at.Reads as view-at-reads
use Rattle.files.proofs.number.Kinds as number-kinds
use Rattle.files.proofs.number.Reads as number-reads
use Rattle.files.proofs.place_of.Kinds as place-of-kinds
use Rattle.files.proofs.place_of.Reads as place-of-reads

pub word_at_determined : Determined 1 word-at-kinds.ps word-at-kinds.r word-at-reads.Post
word_at_determined κs a x y e e' = one_value

pub header_of_determined : Determined 1 header-of-kinds.ps header-of-kinds.r header-of-reads.Post
header_of_determined κs a x y e e' = one_value

pub body_fits_determined : Determined 1 body-fits-kinds.ps body-fits-kinds.r body-fits-reads.Post
body_fits_determined κs a x y e e' = one_value

pub order_at_determined : Determined 1 order-at-kinds.ps order-at-kinds.r order-at-reads.Post
order_at_determined κs a x y e e' = one_value

pub view_at_determined : Determined 1 view-at-kinds.ps view-at-kinds.r view-at-reads.Post
view_at_determined κs a x y e e' = one_value

pub number_determined : Determined 0 number-kinds.ps number-kinds.r number-reads.Post
number_determined κs a x y e e' = one_value

pub place_of_determined : Determined 0 place-of-kinds.ps place-of-kinds.r place-of-reads.Post
place_of_determined κs a x y e e' = one_value
