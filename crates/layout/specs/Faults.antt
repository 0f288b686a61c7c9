-- What a refused sheet tells: four things of each fault.
--   sheet_number               the number of the question
--   layer_of                   the layer that asked it            layer_name   the layer's name, as it is printed
--   record_of                  the record that was asked about
--   bit_of                     the bit where the failing field begins
--   frame_field, route_field   the field that a frame, or a route, is refused for
--   fault_words                the text of four such things           fault_text   the text of a fault
use Rattle.std.specs.Prelude.{ℕ, ◌+◌, ◌-◌, ◌/◌, cond, List, ◌++◌, codes, decimal, nat_lt}
use Rattle.board.specs.Questions.{frame_number, route_number}
use Rattle.board.specs.declared.fault.FrameFault.{FrameFault}
use Rattle.board.specs.declared.fault.FrameFault.TheVariants.{PlaceCount, HomeUnknown, PortUnknown}
use Rattle.board.specs.declared.fault.RouteFault.{RouteFault}
use Rattle.board.specs.declared.fault.RouteFault.TheVariants.{StartUnknown, EndUnknown, SamePlace, CeilingRange, FloorRange}
use Rattle.bits.specs.Fields.{offset, record_start}
use Rattle.layout.specs.declared.fault.Layer.{Layer}
use Rattle.layout.specs.declared.fault.Layer.TheVariants as layer
use Rattle.layout.specs.declared.fault.SheetFault.{SheetFault}
use Rattle.layout.specs.declared.fault.SheetFault.TheVariants.{Bits, Frame, Order, RouteLimit, EntryLimit, Trailing, Padding}
use Rattle.bits.specs.declared.field.Field.{Field}
use Rattle.bits.specs.declared.field.Field.TheVariants.{Places, Home, Port, Routes, Start, End, Floor, Ceiling}

-- The number of the question that got a no.
abbrev pub sheet_number : SheetFault → ℕ
sheet_number (Bits f) = 51
sheet_number (Frame f) = frame_number f
sheet_number (Order o) = route_number o.fault
sheet_number RouteLimit = 52
sheet_number EntryLimit = 53
sheet_number (Trailing r) = 54
sheet_number (Padding r b) = 55

-- The layer that asked.
abbrev pub layer_of : SheetFault → Layer
layer_of (Bits f) = layer.Bits
layer_of (Frame f) = layer.Frame
layer_of (Order o) = layer.Order
layer_of RouteLimit = layer.Sheet
layer_of EntryLimit = layer.Sheet
layer_of (Trailing r) = layer.Sheet
layer_of (Padding r b) = layer.Sheet

-- The name of a layer, as it is printed.
abbrev pub layer_name : Layer → List ℕ
layer_name layer.Bits = codes "bits"
layer_name layer.Frame = codes "frame"
layer_name layer.Order = codes "order"
layer_name layer.Sheet = codes "sheet"

-- The record that was asked about: 0 is the header, route k is record k + 1, and what follows r records is record r + 1.
abbrev pub record_of : SheetFault → ℕ
record_of (Bits f) = cond (nat_lt f.bit 32) 0 ((f.bit - 32) / 39 + 1)
record_of (Frame f) = 0
record_of (Order o) = o.route + 1
record_of RouteLimit = 0
record_of EntryLimit = 0
record_of (Trailing r) = r + 1
record_of (Padding r b) = r + 1

-- The field that a frame is refused for.
abbrev pub frame_field : FrameFault → Field
frame_field PlaceCount = Places
frame_field HomeUnknown = Home
frame_field PortUnknown = Port

-- The field that a route is refused for: the first bad end; of two equal ends the end.
abbrev pub route_field : RouteFault → Field
route_field StartUnknown = Start
route_field EndUnknown = End
route_field SamePlace = End
route_field CeilingRange = Ceiling
route_field FloorRange = Floor

-- The bit where the failing field begins; after the last record the first bit, or the first that is 1.
abbrev pub bit_of : SheetFault → ℕ
bit_of (Bits f) = f.bit
bit_of (Frame f) = offset (frame_field f)
bit_of (Order o) = record_start o.route + offset (route_field o.fault)
bit_of RouteLimit = offset Routes
bit_of EntryLimit = offset Routes
bit_of (Trailing r) = record_start r
bit_of (Padding r b) = b

-- A number, the name of a layer, a record and a bit, with a blank between each two.
abbrev pub fault_words : ℕ → List ℕ → ℕ → ℕ → List ℕ
fault_words number layer place bit =
    decimal number ++ (codes " " ++ (layer ++ (codes " " ++ (decimal place ++ (codes " " ++ decimal bit)))))

-- A fault, as it is printed: what it tells, in that order.
abbrev pub fault_text : SheetFault → List ℕ
fault_text f = fault_words (sheet_number f) (layer_name (layer_of f)) (record_of f) (bit_of f)
