-- What is written so far, with the lines that are left, is the whole.
use Rattle.std.proofs.Common.{◌≡◌, ◌++◌, string_bytes}
use Rattle.std.specs.Iterator.Adapters.{enumerate_count, enumerate_source}
use Rattle.sheet.specs.View.{board_of, routes_left}
use Rattle.report.specs.Text.{route_lines}
use Rattle.report.proofs.sheets.push_routes.Given as goal

abbrev pub invariant-loop-number : goal.invariant-loop-number
invariant-loop-number l =
    string_bytes l.text ++ route_lines (enumerate_count l.number-iterator) (routes_left (enumerate_source l.number-iterator))
    ≡ string_bytes l.initial.text ++ route_lines 0 (board_of l.sheet).routes
