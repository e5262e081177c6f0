use Rattle.std.proofs.Common.{◌≡◌, ◌+◌, ◌≤◌, ◌++◌, length, take, drop}
use Rattle.std.specs.Slice.Iter.{iter_rest}
use Rattle.std.specs.Iterator.Adapters.{zip_first, zip_second}
use Rattle.auction.specs.Settlement.{note_all}
use Rattle.auction.specs.Pricing.{paid}
use Rattle.auction.proofs.blotter.Notes.note_lines.Given as goal

abbrev pub invariant-loop-line : goal.invariant-loop-line
invariant-loop-line l = record {
  can_next : (goal.iterator-loop-line).can_next l.line-iterator;
  is_finite : (goal.iterator-loop-line).is_finite l.line-iterator;
  same_reference : l.self.blotter.ghost_name ≡ l.initial.self.blotter.ghost_name;
  long : length l.self.blotter.now ≡ length l.initial.self.blotter.now;
  few : l.self.at + length (iter_rest (zip_first l.line-iterator)) ≤ l.initial.self.at + length l.lines;
  paired : length (iter_rest (zip_second l.line-iterator)) ≡ length (iter_rest (zip_first l.line-iterator));
  many : l.self.at + length (note_all (paid l.pricing) (iter_rest (zip_first l.line-iterator)) (iter_rest (zip_second l.line-iterator))) ≡ l.initial.self.at + length (note_all (paid l.pricing) l.lines l.fills);
  front : take l.self.at l.self.blotter.now ++ note_all (paid l.pricing) (iter_rest (zip_first l.line-iterator)) (iter_rest (zip_second l.line-iterator)) ≡ take l.initial.self.at l.initial.self.blotter.now ++ note_all (paid l.pricing) l.lines l.fills;
  rest : drop l.self.at l.self.blotter.now ≡ drop l.self.at l.initial.self.blotter.now;
}
