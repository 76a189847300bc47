-- Undo and redo in a document.
pub use Rattle.scene.specs.Performed.{scene_gone}
