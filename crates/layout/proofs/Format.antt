-- How many bits a sheet has.
use Rattle.std.proofs.Common.{◌≡◌, ◌*◌, List, [], ◌∷◌, length, refl, arith}
use Rattle.std.proofs.lemmas.List.{length-append}
use Rattle.std.specs.List.{flat_map}
use Rattle.board.specs.Board.{Board}
use Rattle.board.specs.declared.route.Route.{Route}
use Rattle.bits.specs.Fields.{record_start}
use Rattle.layout.specs.Format.{header_bits, record_bits, sheet_bits}
use Rattle.bits.proofs.Bits.{length_digits}

pub length_header_bits : (b : Board) → length (header_bits b) ≡ 32
unfolding header_bits
length_header_bits b = simp (length-append, length_digits)

pub length_record_bits : (r : Route) → length (record_bits r) ≡ 39
unfolding record_bits
length_record_bits r = simp (length-append, length_digits)

pub length_records : (rs : List Route) → length (flat_map record_bits rs) ≡ 39 * length rs
length_records [] = refl
length_records (r ∷ rs) = omega (arith, length-append (record_bits r) (flat_map record_bits rs), length_record_bits r, length_records rs)

pub length_sheet_bits : (b : Board) → length (sheet_bits b) ≡ record_start (length b.routes)
unfolding sheet_bits
length_sheet_bits b =
    omega (arith, length-append (header_bits b) (flat_map record_bits b.routes), length_header_bits b, length_records b.routes)
