-- Rooms: how much a page may take of a tape and of a side room. `tape_room` and `side_room` are the interface; the theorems `tape_enough` and
-- `side_enough` of proofs/RoomLaws say that they are enough for every page that is judged to a sheet.
-- Assumes nothing.
use Rattle.std.specs.Prelude.{List, [], ◌∷◌, ℕ, ◌+◌, ◌*◌, length}
use Rattle.paper.specs.Lists.{concat}
use Rattle.paper.specs.Fields.{fields_of}
use Rattle.paper.specs.Sizes.{page_bytes}
use Rattle.tape.specs.Tape.{Elem, header}

-- how many numbers a page takes on a tape at most
abbrev pub tape_room : ℕ
tape_room = 4400

-- how many bytes the values of a page have together at most
abbrev pub side_room : ℕ
side_room = page_bytes

-- how many numbers some elements take on a tape
unfoldable pub width : List Elem → ℕ
width [] = 0
width (e ∷ es) = header + 2 * length (fields_of e.kind) + width es

-- how many bytes the values of some elements have together
unfoldable pub values_length : List Elem → ℕ
values_length [] = 0
values_length (e ∷ es) = length (concat e.slots) + values_length es
