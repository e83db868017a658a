-- What is made so far of a connector.
use Rattle.connector_lines.specs.declared.draft.WireDraft.{WireDraft}
use Rattle.connector_lines.specs.Draft as wire
use Rattle.plant_text.specs.Text.{WireText, wire_text_of}

-- a connector as it was written
abbrev pub wire_drafted : WireDraft → WireText
wire_drafted w = wire_text_of (wire.drafted w)
