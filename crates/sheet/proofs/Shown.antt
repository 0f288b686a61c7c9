-- The routes that a view has still to come to.
use Rattle.std.proofs.Common.{◌≡◌, ℕ, ◌+◌, ◌^◌, ◌<◌, List, [], ◌∷◌, length, drop, Some, None, sym, ap, ◌∙◌, ⊎_elim, arith}
use Rattle.std.proofs.lemmas.List.{drop_more, drop_all}
use Rattle.std.proofs.lemmas.Bool.{cases_lt}
use Rattle.std.proofs.lemmas.Option.{slice_get_within, slice_get-get_or, get_or_from_slice_get}
use Rattle.std.specs.List.{slice_get}
use Rattle.board.specs.declared.route.Route.{Route}
use Rattle.bits.proofs.Bits.{binary_bits_of, field_at_lt}
use Rattle.bits.specs.Bits.{bits_of}
use Rattle.layout.proofs.Stated.{length_routes_from}
use Rattle.layout.specs.Stated.{stated, stating}
use Rattle.bits.specs.declared.field.Field.TheVariants.{Routes}
use Rattle.sheet.proofs.Saving.{blank}

pub left_more : (rs : List Route) (k : ℕ) (r : Route) → Some r ≡ slice_get rs k → drop k rs ≡ r ∷ drop (k + 1) rs
left_more rs k r e =
    drop_more rs k r (slice_get_within rs k r (sym e)) ∙ ap (λ (x : Route). x ∷ drop (k + 1) rs) (get_or_from_slice_get rs k r r (sym e))

pub left_none : (rs : List Route) (k : ℕ) → None ≡ slice_get rs k → drop k rs ≡ []
left_none rs k e =
    ⊎_elim (λ (h : k < length rs). let some = slice_get-get_or rs k blank h in cc) (λ h. drop_all k rs h) (cases_lt k (length rs))

-- ten bits state how many there are
pub routes_few : (bytes : List ℕ) → length (stated (bits_of bytes)).routes < 2 ^ 10
unfolding stated
routes_few bytes =
    let bits = bits_of bytes in
    omega (arith, length_routes_from bits 0 (stating bits 0 Routes), field_at_lt bits 22 10 (binary_bits_of bytes))
