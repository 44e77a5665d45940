-- Parts: the fields of an element are a part of the table.
-- Assumes nothing.
use mathlib.Core.Path.{◌≡◌, refl}
use Rattle.paper.specs.Fields.{unknown, P, A, O, S, R, X, W, fields_of}
use Rattle.fields.specs.Places.{fields_from}

-- the fields of P, A and O are parts of the table
pub head_fields : (fields_of P ≡ fields_from 6 8) × (fields_of A ≡ fields_from 14 10) × (fields_of O ≡ fields_from 24 7)
unfolding fields_of fields_from
head_fields = (refl, refl, refl)

-- the fields of a row's elements are parts of the table
pub row_fields : (fields_of S ≡ fields_from 31 2) × (fields_of R ≡ fields_from 49 2) × (fields_of X ≡ fields_from 51 1) × (fields_of W ≡ fields_from 47 2) × (fields_of unknown ≡ fields_from 0 0)
unfolding fields_of fields_from
row_fields = (refl, refl, refl, refl, refl)
