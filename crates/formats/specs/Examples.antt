-- View files on both sides of each of the numbers 8 to 12, 14 to 16 and 24: bytes, number and place. One file byte for byte. What the cuts of a file
-- answer. And the records of order files.
use Rattle.std.specs.Prelude.{ℕ, ◌+◌, ◌-◌, Bool, true, ◌&&◌, ◌≡◌, List, [], ◌∷◌, ◌++◌, eqb, replicate, Some, None, Ok, Err}
use Rattle.text.specs.Ascii.{ascii}
use Rattle.text.specs.Parts.{joined}
use Rattle.formats.specs.declared.FileAnswer.TheVariants.{Whole, OtherMark, MarkCut, BodyCut, HeaderAgain, SecondView}
use Rattle.formats.specs.declared.Order.{Order}
use Rattle.formats.specs.declared.Views.{Views}
use Rattle.formats.specs.declared.ViewsRead.{ViewsRead}
use Rattle.formats.specs.Numbers.{file_number}
use Rattle.formats.specs.Records.{word_at, word_bytes, order_at}
use Rattle.formats.specs.ViewFile.{file_of, read_of}

-- the records: `MN` n, and `VW` p with the set w, before its values
abbrev pub MN : ℕ → List ℕ
MN n = ascii "MN" ++ n ∷ []

abbrev pub VW : ℕ → ℕ → List ℕ
VW p w = ascii "VW" ++ p ∷ word_bytes w

pub record Example : Type 0 where
  pub file : List ℕ
  pub number : ℕ
  pub place : ℕ

abbrev of : List ℕ → ℕ → ℕ → Example
of s k at = record { file = s; number = k; place = at }

abbrev pub two : List ℕ
two = MN 2

-- `VW` 2 with 1:5 and 2:6
abbrev pub both : List ℕ
both = VW 2 3 ++ word_bytes 5 ++ word_bytes 6

abbrev pub examples : List Example
examples =
    -- the header: one byte left, then the mark, then its length, then 8
    of [] 9 0
    ∷ of (ascii "M") 11 0
    ∷ of (0 ∷ []) 11 0
    ∷ of (ascii "NM" ++ 2 ∷ []) 9 0
    ∷ of (ascii "EN") 9 0
    ∷ of (ascii "ST") 9 0
    ∷ of (ascii "CR") 9 0
    ∷ of (ascii "VW") 9 0
    ∷ of (ascii "MN") 24 2
    ∷ of (MN 0) 8 0
    ∷ of (MN 33) 8 0
    ∷ of (MN 255) 8 0
    ∷ of (MN 1) 0 3
    ∷ of (MN 32) 0 3
    ∷ of two 0 3
    -- a later record: one byte left, then the mark, then the five fixed bytes
    ∷ of (two ++ ascii "V") 11 3
    ∷ of (two ++ ascii "MN") 12 3
    ∷ of (two ++ ascii "EN") 10 3
    ∷ of (two ++ ascii "ST") 10 3
    ∷ of (two ++ ascii "CR") 10 3
    ∷ of (two ++ ascii "VM") 10 3
    ∷ of (two ++ ascii "VW") 24 5
    -- the fixed bytes cut, before 14 and before 15
    ∷ of (two ++ ascii "VW" ++ 3 ∷ []) 24 6
    ∷ of (two ++ ascii "VW" ++ 0 ∷ 0 ∷ 0 ∷ 0 ∷ []) 24 9
    ∷ of (two ++ both ++ ascii "VW" ++ 2 ∷ []) 24 21
    -- 14, before 16 and before cut values; no process has both 14 and 15
    ∷ of (two ++ VW 0 0) 14 3
    ∷ of (two ++ VW 3 0) 14 3
    ∷ of (two ++ VW 3 4 ++ word_bytes 5) 14 3
    ∷ of (two ++ VW 0 1) 14 3
    ∷ of (two ++ VW 3 4) 14 3
    -- read: with nobody in it, and with both
    ∷ of (two ++ VW 2 0) 0 10
    ∷ of (two ++ both) 0 18
    ∷ of (two ++ both ++ VW 1 1 ++ word_bytes 7) 0 29
    -- 15, before 16 and before cut values; a view of nobody is a view
    ∷ of (two ++ both ++ both) 15 18
    ∷ of (two ++ VW 2 0 ++ VW 2 0) 15 10
    ∷ of (two ++ both ++ VW 2 4 ++ word_bytes 5) 15 18
    ∷ of (two ++ both ++ VW 2 1) 15 18
    ∷ of (two ++ both ++ VW 1 1 ++ word_bytes 7 ++ both) 15 29
    -- 16, before cut values
    ∷ of (two ++ both ++ VW 1 4 ++ word_bytes 5) 16 18
    ∷ of (two ++ both ++ VW 1 2147483648 ++ word_bytes 5) 16 18
    ∷ of (two ++ both ++ VW 1 4) 16 18
    -- the values cut, by one byte, by one value, by all
    ∷ of (two ++ VW 2 3 ++ word_bytes 5 ++ 6 ∷ 0 ∷ 0 ∷ []) 24 17
    ∷ of (two ++ VW 2 3 ++ word_bytes 5) 24 14
    ∷ of (two ++ both ++ VW 1 1) 24 25
    ∷ of (two ++ both ++ VW 1 1 ++ word_bytes 7 ++ ascii "V") 11 29
    ∷ []

abbrev agrees : ViewsRead → ℕ → ℕ → Bool
agrees r k at = eqb (file_number r.answer) k && eqb r.place at

unfoldable pub hold : List Example → Bool
hold [] = true
hold (e ∷ es) = agrees (read_of e.file) e.number e.place && hold es

abbrev pub ExamplesHold : Type 0
ExamplesHold = hold examples ≡ true

-- "a refused file gives n = 0 and no views"
abbrev pub RefusedFile : Type 0
RefusedFile =
    read_of (two ++ both ++ both)
    ≡ record { answer = SecondView; place = 18; views = record { n = 0; own = 0; seen = replicate 32 0; values = replicate 1024 0 } }

-- A file byte for byte, and its views: of 32 processes 9 saw 1, 9, 17 and 32, a bit in each of the set's bytes; 1 and 32 saw themselves.
abbrev pub bytes : List ℕ
bytes =
    77 ∷ 78 ∷ 32
    ∷ 86 ∷ 87 ∷ 1 ∷ 1 ∷ 0 ∷ 0 ∷ 0
    ∷ 1 ∷ 2 ∷ 3 ∷ 4
    ∷ 86 ∷ 87 ∷ 9 ∷ 1 ∷ 1 ∷ 1 ∷ 128
    ∷ 1 ∷ 2 ∷ 3 ∷ 4
    ∷ 255 ∷ 255 ∷ 255 ∷ 255
    ∷ 0 ∷ 0 ∷ 0 ∷ 0
    ∷ 44 ∷ 1 ∷ 0 ∷ 0
    ∷ 86 ∷ 87 ∷ 32 ∷ 0 ∷ 0 ∷ 0 ∷ 128
    ∷ 44 ∷ 1 ∷ 0 ∷ 0
    ∷ []

abbrev pub carried : Views
carried =
    record {
      n = 32;
      own = 2147483905;
      seen = 1 ∷ replicate 7 0 ++ 2147549441 ∷ replicate 22 0 ++ 2147483648 ∷ [];
      values =
          67305985 ∷ replicate 255 0
          ++ 67305985 ∷ replicate 7 0
          ++ 4294967295 ∷ replicate 7 0
          ++ 0 ∷ replicate 14 0
          ++ 300 ∷ replicate 735 0
          ++ 300 ∷ [];
    }

pub record ByteForByte : Type 0 where
  pub read : read_of bytes ≡ record { answer = Whole; place = 48; views = carried }
  pub written : file_of carried ≡ bytes
  -- past the end of a file there are zeros
  pub past : word_at bytes 48 ≡ 0

-- What a file answers that was cut: number and place. The cuts of the header,
pub record Cut : Type 0 where
  pub number : ℕ
  pub place : ℕ

abbrev pub cut : ℕ → ℕ → Cut
cut k at = record { number = k; place = at }

abbrev pub header_cuts : List Cut
header_cuts = cut 9 0 ∷ cut 11 0 ∷ cut 24 2 ∷ []

-- and those of a record of some bytes that stands at a place: before it, after one byte of its mark, after its mark, and so on to its last byte but one.
abbrev pub record_cuts : ℕ → ℕ → List Cut
record_cuts at bytes = cut 0 at ∷ cut 11 at ∷ joined (at + 2) (bytes - 2) (λ k. cut 24 k ∷ [])

-- Records of an order file after its header, on both sides of 10, 11 and 12; the value's four bytes differ.
pub record OrdersRead : Type 0 where
  pub nothing_left : order_at two 3 ≡ Ok None
  pub one_byte : order_at (two ++ ascii "E") 3 ≡ Err MarkCut
  pub header_again : order_at (two ++ ascii "MN") 3 ≡ Err HeaderAgain
  pub view : order_at (two ++ both) 3 ≡ Err OtherMark
  pub foreign : order_at (two ++ ascii "NE") 3 ≡ Err OtherMark
  pub enter : order_at (two ++ 69 ∷ 78 ∷ 1 ∷ 4 ∷ 3 ∷ 2 ∷ 1 ∷ []) 3 ≡ Ok (Some (Order.Enter 1 16909060))
  pub enter_cut : order_at (two ++ ascii "EN" ++ 1 ∷ 4 ∷ 3 ∷ 2 ∷ []) 3 ≡ Err BodyCut
  pub step : order_at (two ++ 83 ∷ 84 ∷ 2 ∷ []) 3 ≡ Ok (Some (Order.Step 2))
  pub step_cut : order_at (two ++ ascii "ST") 3 ≡ Err BodyCut
  pub crash : order_at (two ++ 67 ∷ 82 ∷ 0 ∷ []) 3 ≡ Ok (Some (Order.Crash 0))
  pub crash_cut : order_at (two ++ ascii "CR") 3 ≡ Err BodyCut
  pub past_another : order_at (two ++ ascii "ST" ++ 2 ∷ ascii "CR" ++ 255 ∷ ascii "S") 6 ≡ Ok (Some (Order.Crash 255))
