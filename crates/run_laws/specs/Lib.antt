-- The laws of whole runs, stated with the definitions of `ed_model`.
pub mod MessageKinds
pub mod Reached
pub mod RefusalLaws
pub mod HeldLaws
pub mod UndoRunLaws
pub mod SavePointLaws
pub mod LastSavePointLaws
pub mod IsolationLaws
pub mod MacroLaws
pub mod EditLaws
pub mod StyleLaws
pub mod HandleRunLaws
pub mod IdLaws
pub mod LineEndLaws
pub mod FoldLaws
