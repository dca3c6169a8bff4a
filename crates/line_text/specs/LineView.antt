-- A line of the program, as what it shows.
use Rattle.line_text.specs.Lines.{LineValue}
use Rattle.line_text.specs.declared.lines.Line.{Line}

abbrev pub line_value : Line → LineValue
line_value line = record { number = line.number; start = line.start; text = line.text.now }
