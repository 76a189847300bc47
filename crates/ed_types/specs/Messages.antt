-- The messages: numbers, names and marks. The names and numbers are those of Scintilla's documentation. The marks are
-- this project's own.
use Rattle.std.specs.Prelude.{ℕ, Bool, true, false, ◌==◌, List, [], ◌∷◌, find, Option, option_map}
use Rattle.ed_types.specs.declared.kind.Kind.{Kind}
use Rattle.ed_types.specs.declared.kind.Kind.TheVariants as kinds
use Rattle.ed_types.specs.declared.marks.Columns.{Columns}

-- The marks, read aloud: a Query changes nothing; it allocates No memory; it Edits the text; it is Recorded.
abbrev pub marks : Bool → Bool → Bool → Bool → Columns
marks q n e r = record { q = q; n = n; e = e; r = r }

abbrev pub query : Columns
query = marks true false false false

abbrev pub query_without_memory : Columns
query_without_memory = marks true true false false

abbrev pub without_memory : Columns
without_memory = marks false true false false

abbrev pub recorded_without_memory : Columns
recorded_without_memory = marks false true false true

abbrev pub recorded : Columns
recorded = marks false false false true

abbrev pub edit : Columns
edit = marks false false true false

abbrev pub recorded_edit : Columns
recorded_edit = marks false false true true

abbrev pub unmarked : Columns
unmarked = marks false false false false

-- A message's row of the table.
pub record Row : Type 0 where
  pub number : ℕ
  pub marks : Columns

abbrev pub row : ℕ → Columns → Row
row number marks = record { number = number; marks = marks }

abbrev pub row_of : Kind → Row
row_of kinds.AddText = row 2001 recorded_edit  -- ADDTEXT
row_of kinds.InsertText = row 2003 recorded_edit  -- INSERTTEXT
row_of kinds.ClearAll = row 2004 recorded_edit  -- CLEARALL
row_of kinds.GetLength = row 2006 query_without_memory  -- GETLENGTH
row_of kinds.GetCharAt = row 2007 query_without_memory  -- GETCHARAT
row_of kinds.GetCurrentPos = row 2008 query_without_memory  -- GETCURRENTPOS
row_of kinds.GetAnchor = row 2009 query_without_memory  -- GETANCHOR
row_of kinds.GetStyleAt = row 2010 query_without_memory  -- GETSTYLEAT
row_of kinds.Redo = row 2011 edit  -- REDO
row_of kinds.SetUndoCollection = row 2012 without_memory  -- SETUNDOCOLLECTION
row_of kinds.SelectAll = row 2013 recorded_without_memory  -- SELECTALL
row_of kinds.SetSavePoint = row 2014 unmarked  -- SETSAVEPOINT
row_of kinds.GetStyledText = row 2015 query  -- GETSTYLEDTEXT
row_of kinds.CanRedo = row 2016 query_without_memory  -- CANREDO
row_of kinds.MarkerLineFromHandle = row 2017 query_without_memory  -- MARKERLINEFROMHANDLE
row_of kinds.MarkerDeleteHandle = row 2018 unmarked  -- MARKERDELETEHANDLE
row_of kinds.GetUndoCollection = row 2019 query_without_memory  -- GETUNDOCOLLECTION
row_of kinds.GotoLine = row 2024 recorded_without_memory  -- GOTOLINE
row_of kinds.GotoPos = row 2025 recorded_without_memory  -- GOTOPOS
row_of kinds.SetAnchor = row 2026 without_memory  -- SETANCHOR
row_of kinds.GetCurLine = row 2027 query  -- GETCURLINE
row_of kinds.GetEndStyled = row 2028 query_without_memory  -- GETENDSTYLED
row_of kinds.ConvertEols = row 2029 edit  -- CONVERTEOLS
row_of kinds.GetEolMode = row 2030 query_without_memory  -- GETEOLMODE
row_of kinds.SetEolMode = row 2031 without_memory  -- SETEOLMODE
row_of kinds.StartStyling = row 2032 without_memory  -- STARTSTYLING
row_of kinds.SetStyling = row 2033 unmarked  -- SETSTYLING
row_of kinds.MarkerAdd = row 2043 unmarked  -- MARKERADD
row_of kinds.MarkerDelete = row 2044 unmarked  -- MARKERDELETE
row_of kinds.MarkerDeleteAll = row 2045 unmarked  -- MARKERDELETEALL
row_of kinds.MarkerGet = row 2046 query_without_memory  -- MARKERGET
row_of kinds.MarkerNext = row 2047 query_without_memory  -- MARKERNEXT
row_of kinds.MarkerPrevious = row 2048 query_without_memory  -- MARKERPREVIOUS
row_of kinds.SetStylingEx = row 2073 unmarked  -- SETSTYLINGEX
row_of kinds.BeginUndoAction = row 2078 without_memory  -- BEGINUNDOACTION
row_of kinds.EndUndoAction = row 2079 without_memory  -- ENDUNDOACTION
row_of kinds.SetLineState = row 2092 unmarked  -- SETLINESTATE
row_of kinds.GetLineState = row 2093 query_without_memory  -- GETLINESTATE
row_of kinds.GetLineEndPosition = row 2136 query_without_memory  -- GETLINEENDPOSITION
row_of kinds.GetReadOnly = row 2140 query_without_memory  -- GETREADONLY
row_of kinds.SetCurrentPos = row 2141 without_memory  -- SETCURRENTPOS
row_of kinds.SetSelectionStart = row 2142 without_memory  -- SETSELECTIONSTART
row_of kinds.GetSelectionStart = row 2143 query_without_memory  -- GETSELECTIONSTART
row_of kinds.SetSelectionEnd = row 2144 without_memory  -- SETSELECTIONEND
row_of kinds.GetSelectionEnd = row 2145 query_without_memory  -- GETSELECTIONEND
row_of kinds.GetLine = row 2153 query  -- GETLINE
row_of kinds.GetLineCount = row 2154 query_without_memory  -- GETLINECOUNT
row_of kinds.GetModify = row 2159 query_without_memory  -- GETMODIFY
row_of kinds.SetSel = row 2160 without_memory  -- SETSEL
row_of kinds.GetSelText = row 2161 query  -- GETSELTEXT
row_of kinds.GetTextRange = row 2162 query  -- GETTEXTRANGE
row_of kinds.LineFromPosition = row 2166 query_without_memory  -- LINEFROMPOSITION
row_of kinds.PositionFromLine = row 2167 query_without_memory  -- POSITIONFROMLINE
row_of kinds.ReplaceSel = row 2170 recorded_edit  -- REPLACESEL
row_of kinds.SetReadOnly = row 2171 without_memory  -- SETREADONLY
row_of kinds.CanPaste = row 2173 query_without_memory  -- CANPASTE
row_of kinds.CanUndo = row 2174 query_without_memory  -- CANUNDO
row_of kinds.EmptyUndoBuffer = row 2175 without_memory  -- EMPTYUNDOBUFFER
row_of kinds.Undo = row 2176 edit  -- UNDO
row_of kinds.Cut = row 2177 recorded_edit  -- CUT
row_of kinds.Copy = row 2178 recorded  -- COPY
row_of kinds.Paste = row 2179 recorded_edit  -- PASTE
row_of kinds.Clear = row 2180 recorded_edit  -- CLEAR
row_of kinds.SetText = row 2181 edit  -- SETTEXT
row_of kinds.GetText = row 2182 query  -- GETTEXT
row_of kinds.GetTextLength = row 2183 query_without_memory  -- GETTEXTLENGTH
row_of kinds.SetTargetStart = row 2190 without_memory  -- SETTARGETSTART
row_of kinds.GetTargetStart = row 2191 query_without_memory  -- GETTARGETSTART
row_of kinds.SetTargetEnd = row 2192 without_memory  -- SETTARGETEND
row_of kinds.GetTargetEnd = row 2193 query_without_memory  -- GETTARGETEND
row_of kinds.ReplaceTarget = row 2194 edit  -- REPLACETARGET
row_of kinds.SearchInTarget = row 2197 without_memory  -- SEARCHINTARGET
row_of kinds.SetSearchFlags = row 2198 without_memory  -- SETSEARCHFLAGS
row_of kinds.GetSearchFlags = row 2199 query_without_memory  -- GETSEARCHFLAGS
row_of kinds.VisibleFromDocLine = row 2220 query_without_memory  -- VISIBLEFROMDOCLINE
row_of kinds.DocLineFromVisible = row 2221 query_without_memory  -- DOCLINEFROMVISIBLE
row_of kinds.SetFoldLevel = row 2222 unmarked  -- SETFOLDLEVEL
row_of kinds.GetFoldLevel = row 2223 query_without_memory  -- GETFOLDLEVEL
row_of kinds.GetLastChild = row 2224 query_without_memory  -- GETLASTCHILD
row_of kinds.GetFoldParent = row 2225 query_without_memory  -- GETFOLDPARENT
row_of kinds.ShowLines = row 2226 unmarked  -- SHOWLINES
row_of kinds.HideLines = row 2227 unmarked  -- HIDELINES
row_of kinds.GetLineVisible = row 2228 query_without_memory  -- GETLINEVISIBLE
row_of kinds.SetFoldExpanded = row 2229 unmarked  -- SETFOLDEXPANDED
row_of kinds.GetFoldExpanded = row 2230 query_without_memory  -- GETFOLDEXPANDED
row_of kinds.ToggleFold = row 2231 unmarked  -- TOGGLEFOLD
row_of kinds.EnsureVisible = row 2232 unmarked  -- ENSUREVISIBLE
row_of kinds.GetAllLinesVisible = row 2236 query_without_memory  -- GETALLLINESVISIBLE
row_of kinds.FoldLine = row 2237 unmarked  -- FOLDLINE
row_of kinds.AppendText = row 2282 recorded_edit  -- APPENDTEXT
row_of kinds.TargetFromSelection = row 2287 without_memory  -- TARGETFROMSELECTION
row_of kinds.CharLeft = row 2304 recorded_without_memory  -- CHARLEFT
row_of kinds.CharLeftExtend = row 2305 recorded_without_memory  -- CHARLEFTEXTEND
row_of kinds.CharRight = row 2306 recorded_without_memory  -- CHARRIGHT
row_of kinds.CharRightExtend = row 2307 recorded_without_memory  -- CHARRIGHTEXTEND
row_of kinds.Home = row 2312 recorded_without_memory  -- HOME
row_of kinds.HomeExtend = row 2313 recorded_without_memory  -- HOMEEXTEND
row_of kinds.LineEnd = row 2314 recorded_without_memory  -- LINEEND
row_of kinds.LineEndExtend = row 2315 recorded_without_memory  -- LINEENDEXTEND
row_of kinds.DocumentStart = row 2316 recorded_without_memory  -- DOCUMENTSTART
row_of kinds.DocumentStartExtend = row 2317 recorded_without_memory  -- DOCUMENTSTARTEXTEND
row_of kinds.DocumentEnd = row 2318 recorded_without_memory  -- DOCUMENTEND
row_of kinds.DocumentEndExtend = row 2319 recorded_without_memory  -- DOCUMENTENDEXTEND
row_of kinds.DeleteBack = row 2326 recorded_edit  -- DELETEBACK
row_of kinds.NewLine = row 2329 recorded_edit  -- NEWLINE
row_of kinds.LineLength = row 2350 query_without_memory  -- LINELENGTH
row_of kinds.GetDocPointer = row 2357 query_without_memory  -- GETDOCPOINTER
row_of kinds.SetDocPointer = row 2358 unmarked  -- SETDOCPOINTER
row_of kinds.SetModEventMask = row 2359 without_memory  -- SETMODEVENTMASK
row_of kinds.CreateDocument = row 2375 unmarked  -- CREATEDOCUMENT
row_of kinds.AddRefDocument = row 2376 without_memory  -- ADDREFDOCUMENT
row_of kinds.ReleaseDocument = row 2377 without_memory  -- RELEASEDOCUMENT
row_of kinds.GetModEventMask = row 2378 query_without_memory  -- GETMODEVENTMASK
row_of kinds.GetDocumentOptions = row 2379 query_without_memory  -- GETDOCUMENTOPTIONS
row_of kinds.PositionBefore = row 2417 query_without_memory  -- POSITIONBEFORE
row_of kinds.PositionAfter = row 2418 query_without_memory  -- POSITIONAFTER
row_of kinds.CopyRange = row 2419 unmarked  -- COPYRANGE
row_of kinds.CopyText = row 2420 unmarked  -- COPYTEXT
row_of kinds.MarkerAddSet = row 2466 unmarked  -- MARKERADDSET
row_of kinds.SetPasteConvertEndings = row 2467 without_memory  -- SETPASTECONVERTENDINGS
row_of kinds.GetPasteConvertEndings = row 2468 query_without_memory  -- GETPASTECONVERTENDINGS
row_of kinds.SetIndicatorCurrent = row 2500 without_memory  -- SETINDICATORCURRENT
row_of kinds.GetIndicatorCurrent = row 2501 query_without_memory  -- GETINDICATORCURRENT
row_of kinds.SetIndicatorValue = row 2502 without_memory  -- SETINDICATORVALUE
row_of kinds.GetIndicatorValue = row 2503 query_without_memory  -- GETINDICATORVALUE
row_of kinds.IndicatorFillRange = row 2504 unmarked  -- INDICATORFILLRANGE
row_of kinds.IndicatorClearRange = row 2505 unmarked  -- INDICATORCLEARRANGE
row_of kinds.IndicatorAllOnFor = row 2506 query_without_memory  -- INDICATORALLONFOR
row_of kinds.IndicatorValueAt = row 2507 query_without_memory  -- INDICATORVALUEAT
row_of kinds.IndicatorStart = row 2508 query_without_memory  -- INDICATORSTART
row_of kinds.IndicatorEnd = row 2509 query_without_memory  -- INDICATOREND
row_of kinds.SetEmptySelection = row 2556 without_memory  -- SETEMPTYSELECTION
row_of kinds.AddUndoAction = row 2560 unmarked  -- ADDUNDOACTION
row_of kinds.DeleteRange = row 2645 edit  -- DELETERANGE
row_of kinds.GetSelectionEmpty = row 2650 query_without_memory  -- GETSELECTIONEMPTY
row_of kinds.SetLineEndTypesAllowed = row 2656 unmarked  -- SETLINEENDTYPESALLOWED
row_of kinds.GetLineEndTypesAllowed = row 2657 query_without_memory  -- GETLINEENDTYPESALLOWED
row_of kinds.GetLineEndTypesActive = row 2658 query_without_memory  -- GETLINEENDTYPESACTIVE
row_of kinds.SetTargetRange = row 2686 without_memory  -- SETTARGETRANGE
row_of kinds.GetTargetText = row 2687 query  -- GETTARGETTEXT
row_of kinds.TargetWholeDocument = row 2690 without_memory  -- TARGETWHOLEDOCUMENT
row_of kinds.StartRecord = row 3001 without_memory  -- STARTRECORD
row_of kinds.StopRecord = row 3002 without_memory  -- STOPRECORD
row_of kinds.Colourise = row 4003 unmarked  -- COLOURISE

abbrev pub number_of : Kind → ℕ
number_of kind = (row_of kind).number

abbrev pub marks_of : Kind → Columns
marks_of kind = (row_of kind).marks

-- every kind, by rising numbers
abbrev pub every_kind : List Kind
every_kind = kinds.AddText ∷ kinds.InsertText ∷ kinds.ClearAll ∷ kinds.GetLength ∷ kinds.GetCharAt ∷ kinds.GetCurrentPos ∷ kinds.GetAnchor ∷
    kinds.GetStyleAt ∷ kinds.Redo ∷ kinds.SetUndoCollection ∷ kinds.SelectAll ∷ kinds.SetSavePoint ∷ kinds.GetStyledText ∷ kinds.CanRedo ∷
    kinds.MarkerLineFromHandle ∷ kinds.MarkerDeleteHandle ∷ kinds.GetUndoCollection ∷ kinds.GotoLine ∷ kinds.GotoPos ∷ kinds.SetAnchor ∷
    kinds.GetCurLine ∷ kinds.GetEndStyled ∷ kinds.ConvertEols ∷ kinds.GetEolMode ∷ kinds.SetEolMode ∷ kinds.StartStyling ∷ kinds.SetStyling ∷
    kinds.MarkerAdd ∷ kinds.MarkerDelete ∷ kinds.MarkerDeleteAll ∷ kinds.MarkerGet ∷ kinds.MarkerNext ∷ kinds.MarkerPrevious ∷ kinds.SetStylingEx ∷
    kinds.BeginUndoAction ∷ kinds.EndUndoAction ∷ kinds.SetLineState ∷ kinds.GetLineState ∷ kinds.GetLineEndPosition ∷ kinds.GetReadOnly ∷
    kinds.SetCurrentPos ∷ kinds.SetSelectionStart ∷ kinds.GetSelectionStart ∷ kinds.SetSelectionEnd ∷ kinds.GetSelectionEnd ∷ kinds.GetLine ∷
    kinds.GetLineCount ∷ kinds.GetModify ∷ kinds.SetSel ∷ kinds.GetSelText ∷ kinds.GetTextRange ∷ kinds.LineFromPosition ∷ kinds.PositionFromLine ∷
    kinds.ReplaceSel ∷ kinds.SetReadOnly ∷ kinds.CanPaste ∷ kinds.CanUndo ∷ kinds.EmptyUndoBuffer ∷ kinds.Undo ∷ kinds.Cut ∷ kinds.Copy ∷
    kinds.Paste ∷ kinds.Clear ∷ kinds.SetText ∷ kinds.GetText ∷ kinds.GetTextLength ∷ kinds.SetTargetStart ∷ kinds.GetTargetStart ∷
    kinds.SetTargetEnd ∷ kinds.GetTargetEnd ∷ kinds.ReplaceTarget ∷ kinds.SearchInTarget ∷ kinds.SetSearchFlags ∷ kinds.GetSearchFlags ∷
    kinds.VisibleFromDocLine ∷ kinds.DocLineFromVisible ∷ kinds.SetFoldLevel ∷ kinds.GetFoldLevel ∷ kinds.GetLastChild ∷ kinds.GetFoldParent ∷
    kinds.ShowLines ∷ kinds.HideLines ∷ kinds.GetLineVisible ∷ kinds.SetFoldExpanded ∷ kinds.GetFoldExpanded ∷ kinds.ToggleFold ∷
    kinds.EnsureVisible ∷ kinds.GetAllLinesVisible ∷ kinds.FoldLine ∷ kinds.AppendText ∷ kinds.TargetFromSelection ∷ kinds.CharLeft ∷
    kinds.CharLeftExtend ∷ kinds.CharRight ∷ kinds.CharRightExtend ∷ kinds.Home ∷ kinds.HomeExtend ∷ kinds.LineEnd ∷ kinds.LineEndExtend ∷
    kinds.DocumentStart ∷ kinds.DocumentStartExtend ∷ kinds.DocumentEnd ∷ kinds.DocumentEndExtend ∷ kinds.DeleteBack ∷ kinds.NewLine ∷
    kinds.LineLength ∷ kinds.GetDocPointer ∷ kinds.SetDocPointer ∷ kinds.SetModEventMask ∷ kinds.CreateDocument ∷ kinds.AddRefDocument ∷
    kinds.ReleaseDocument ∷ kinds.GetModEventMask ∷ kinds.GetDocumentOptions ∷ kinds.PositionBefore ∷ kinds.PositionAfter ∷ kinds.CopyRange ∷
    kinds.CopyText ∷ kinds.MarkerAddSet ∷ kinds.SetPasteConvertEndings ∷ kinds.GetPasteConvertEndings ∷ kinds.SetIndicatorCurrent ∷
    kinds.GetIndicatorCurrent ∷ kinds.SetIndicatorValue ∷ kinds.GetIndicatorValue ∷ kinds.IndicatorFillRange ∷ kinds.IndicatorClearRange ∷
    kinds.IndicatorAllOnFor ∷ kinds.IndicatorValueAt ∷ kinds.IndicatorStart ∷ kinds.IndicatorEnd ∷ kinds.SetEmptySelection ∷ kinds.AddUndoAction ∷
    kinds.DeleteRange ∷ kinds.GetSelectionEmpty ∷ kinds.SetLineEndTypesAllowed ∷ kinds.GetLineEndTypesAllowed ∷ kinds.GetLineEndTypesActive ∷
    kinds.SetTargetRange ∷ kinds.GetTargetText ∷ kinds.TargetWholeDocument ∷ kinds.StartRecord ∷ kinds.StopRecord ∷ kinds.Colourise ∷ []

-- the kind among these that has the number
abbrev pub kind_among : List Kind → ℕ → Option Kind
kind_among kinds number = find (λ kind. number_of kind == number) kinds

-- the kind that has the number
abbrev pub kind_of : ℕ → Option Kind
kind_of number = kind_among every_kind number

-- the marks of the message that has the number
abbrev pub marks_at : ℕ → Option Columns
marks_at number = option_map marks_of (kind_of number)
