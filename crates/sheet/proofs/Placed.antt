-- Bits written over bytes, some after the other.
use Rattle.std.proofs.Common.{◌≡◌, ℕ, ◌+◌, ◌-◌, ◌*◌, ◌%◌, ◌<◌, ◌≤◌, List, [], ◌++◌, length, get_or, take, drop, sym, refl, ap, ◌∙◌, ap₂, add-zero, arith}
use Rattle.std.proofs.lemmas.List.{append-nil, append_assoc, length-append, length-take-le, take-append-drop, take_at, take_more, drop_at, drop-drop, length-replicate, flat_map_more}
use Rattle.std.specs.List.{flat_map}
use Rattle.board.specs.Board.{Board}
use Rattle.board.specs.declared.route.Route.{Route}
use Rattle.bits.specs.Bits.{bits_of, zeros, fill, written}
use Rattle.layout.specs.Format.{record_bits, sheet_bits, IsSheet, sheet_length}
use Rattle.sheet.specs.Writing.{bytes_to, Placed, Wrote}
use Rattle.sheet.specs.declared.writer.BitWriter.{BitWriter}
use Rattle.bits.proofs.Bits.{length_bits_of}
use Rattle.bits.proofs.Bytes.{bits_of_take}
use Rattle.layout.proofs.Format.{length_sheet_bits}

-- to write some bits and then more is to write them all
pub written_written : (bits : List ℕ) (p : ℕ) (xs ys : List ℕ) → p ≤ length bits → written (written bits p xs) (p + length xs) ys ≡ written bits p (xs ++ ys)
unfolding written
written_written bits p xs ys h =
    let q : ℕ = p + length xs in
    let f : ℕ = fill q in
    let r : ℕ = q + length ys in
    let g : ℕ = fill r in
    let front : List ℕ = take p bits ++ xs in
    let rest : List ℕ = drop (q + f) bits in
    let lf : length front ≡ q = length-append (take p bits) xs ∙ ap (λ (n : ℕ). n + length xs) (length-take-le p bits h) in
    let lz : length (front ++ zeros f) ≡ q + f =
    length-append front (zeros f) ∙ ap₂ (λ (m n : ℕ). m + n) lf (length-replicate f 0)
    in
    let e : r + g ≡ (q + f) + (r + g - (q + f)) = omega arith in
    let t : take q (front ++ zeros f ++ rest) ≡ front =
    ap (take q) (append_assoc front (zeros f) rest) ∙ take_at front (zeros f ++ rest) q lf
    in
    let d : drop (r + g) (front ++ zeros f ++ rest) ≡ drop (r + g) bits =
    ap (λ (n : ℕ). drop n (front ++ zeros f ++ rest)) e
    ∙ sym (drop-drop (r + g - (q + f)) (q + f) (front ++ zeros f ++ rest))
    ∙ ap (drop (r + g - (q + f))) (drop_at (front ++ zeros f) rest (q + f) lz)
    ∙ drop-drop (r + g - (q + f)) (q + f) bits
    ∙ ap (λ (n : ℕ). drop n bits) (sym e)
    in
    let l : p + length (xs ++ ys) ≡ r = omega (arith, length-append xs ys) in
    ap₂ (λ (a b : List ℕ). a ++ ys ++ zeros g ++ b) t d
    ∙ ap (λ (a : List ℕ). a ++ zeros g ++ drop (r + g) bits) (append_assoc (take p bits) xs ys)
    ∙ ap (λ (n : ℕ). take p bits ++ (xs ++ ys) ++ zeros (fill n) ++ drop (n + fill n) bits) (sym l)

-- what follows later bytes stays too
drop_further : (xs ys : List ℕ) (m n : ℕ) → m ≤ n → drop m xs ≡ drop m ys → drop n xs ≡ drop n ys
drop_further xs ys m n h e =
    let s : n ≡ m + (n - m) = omega arith in
    ap (λ (k : ℕ). drop k xs) s ∙ sym (drop-drop (n - m) m xs) ∙ ap (drop (n - m)) e ∙ drop-drop (n - m) m ys
    ∙ ap (λ (k : ℕ). drop k ys) (sym s)

-- some bits, and then more behind them
pub placed_more : (a b c : List ℕ) (p q : ℕ) (xs ys : List ℕ) → q ≡ p + length xs → Placed a p xs b → Placed b q ys c → Placed a p (xs ++ ys) c
placed_more a b c p q xs ys e f s =
    let l = length-append xs ys in
    let n : q + length ys ≡ p + length (xs ++ ys) = omega arith in
    record {
      room = omega arith;
      bits =
          s.bits ∙ ap (λ (k : ℕ). written (bits_of b) k ys) e ∙ ap (λ (w : List ℕ). written w (p + length xs) ys) f.bits
          ∙ written_written (bits_of a) p xs ys (omega (arith, length_bits_of a));
      later =
          ap (λ (k : ℕ). drop (bytes_to k) c) (sym n) ∙ s.later ∙ ap (λ (k : ℕ). drop (bytes_to k) b) n
          ∙ drop_further b a (bytes_to (p + length xs)) (bytes_to (p + length (xs ++ ys))) (omega arith) f.later;
      as_long = s.as_long ∙ f.as_long;
    }

-- no bits, at the start of a byte
pub placed_none : (bs : List ℕ) (p : ℕ) → p % 8 ≡ 0 → p ≤ 8 * length bs → Placed bs p [] bs
unfolding written
placed_none bs p whole h =
    let e : fill (p + 0) ≡ 0 = omega arith in
    let f : p + 0 ≡ p = omega arith in
    record {
      room = omega arith;
      bits =
          sym (ap (λ (n : ℕ). take p (bits_of bs) ++ [] ++ zeros n ++ drop (p + 0 + n) (bits_of bs)) e ∙ simp (append-nil, add-zero) (take-append-drop p (bits_of bs)));
      later = refl;
      as_long = refl;
    }

-- a board's bits from bit 0 on are its sheet
pub placed_sheet : (b : Board) (bs out : List ℕ) → Placed bs 0 (sheet_bits b) out → IsSheet b (take (sheet_length (length b.routes)) out)
unfolding written
placed_sheet b bs out p =
    let n : ℕ = sheet_length (length b.routes) in
    let all : List ℕ = sheet_bits b in
    let l = length_sheet_bits b in
    let z : 0 + length all ≡ length all = omega arith in
    let f : ℕ = fill (length all) in
    let t : length (all ++ zeros f) ≡ 8 * n = length-append all (zeros f) ∙ omega (arith, length-replicate {A = ℕ} f 0) in
    let w : written (bits_of bs) 0 all ≡ all ++ zeros f ++ drop (length all + f) (bits_of bs) =
    ap (λ (k : ℕ). all ++ zeros (fill k) ++ drop (k + fill k) (bits_of bs)) z
    in
    bits_of_take n out (omega (arith, p.room, p.as_long)) ∙ ap (take (8 * n)) (p.bits ∙ w)
    ∙ take_at (all ++ zeros f) (drop (length all + f) (bits_of bs)) (8 * n) t

-- the same of the bytes that a buffer ends with, and of those that follow the sheet
pub ends_with_sheet : (b : Board) {bs out : List ℕ} {n : ℕ} (end : List ℕ) → Placed bs 0 (sheet_bits b) out → n ≡ sheet_length (length b.routes) → end ≡ out → IsSheet b (take n end)
ends_with_sheet b {bs} {out} {n} end p e same =
    ap (λ (k : ℕ). bits_of (take k end)) e ∙ ap (λ (l : List ℕ). bits_of (take (sheet_length (length b.routes)) l)) same
    ∙ placed_sheet b bs out p

pub ends_as_before : (b : Board) {bs out : List ℕ} {n : ℕ} (end : List ℕ) → Placed bs 0 (sheet_bits b) out → n ≡ sheet_length (length b.routes) → end ≡ out → drop n end ≡ drop n bs
ends_as_before b {bs} {out} {n} end p e same =
    let l : bytes_to (0 + length (sheet_bits b)) ≡ n = omega (arith, length_sheet_bits b) in
    ap (drop n) same ∙ ap (λ (k : ℕ). drop k out) (sym l) ∙ p.later ∙ ap (λ (k : ℕ). drop k bs) l

-- what a writer wrote, and then more
pub wrote_more : (v w x : BitWriter) (xs ys : List ℕ) → Wrote v xs w → Wrote w ys x → Wrote v (xs ++ ys) x
wrote_more v w x xs ys f s =
    let l = length-append xs ys in
    record {
      placed = placed_more v.buffer.now w.buffer.now x.buffer.now v.position w.position xs ys f.position f.placed s.placed;
      position = omega (arith, f.position, s.position);
      same = s.same ∙ f.same;
    }

-- no bits, from the start of a byte
pub wrote_none : (w : BitWriter) → w.position % 8 ≡ 0 → w.position ≤ 8 * length w.buffer.now → Wrote w [] w
wrote_none w whole h = record { placed = placed_none w.buffer.now w.position whole h; position = omega arith; same = refl }

-- one record more
pub wrote_record : (v w x : BitWriter) (rs : List Route) (k : ℕ) (d : Route) → k < length rs → Wrote v (flat_map record_bits (take k rs)) w → Wrote w (record_bits (get_or rs k d)) x → Wrote v (flat_map record_bits (take (k + 1) rs)) x
wrote_record v w x rs k d h done next =
    let more = wrote_more v w x (flat_map record_bits (take k rs)) (record_bits (get_or rs k d)) done next in
    let j = flat_map_more record_bits [] (take k rs) (get_or rs k d) in
    rw (take_more rs k d h, ← j) more
