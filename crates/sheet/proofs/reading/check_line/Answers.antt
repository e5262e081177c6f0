use Rattle.std.proofs.Common.{rules}
use Rattle.parse.specs.Parser.{form_of}
use Rattle.parse.specs.View.{tokens}
use Rattle.sheet.proofs.Lined.{same_line, house_trouble, house_ok}
use Rattle.sheet.proofs.reading.check_line.Goals as goal

pub returns-in_err-house : goal.returns-in_err-house
returns-in_err-house c = search (rules, house_trouble (form_of (tokens c.is_blank.new.reader)) _ c.in_err-house.ensures)

pub returns : goal.returns
returns c =
    let us = tokens c.check_form.new.self in
    let e = house_ok (form_of (tokens c.is_blank.new.reader)) c.in_ok-house.house us c.in_ok-house.ensures in
    let s = same_line c.is_blank.new.reader c.end.new.self e.0 us e.1 c.in_ok-end.ensures in
    search rules
